-- Shown: two accepted edit files of which one does not use just what the original has are refused by 2, and by no other number.
-- How: sizes, code points and records of both lists are good, the tiling refuses by 2 alone, and lists that tile the original use all of it.
use Prim.Native.Nat.{ℕ, ◌+◌, ◌≤◌, ◌<◌}
use mathlib.Core.Path.{◌≡◌, refl, ap, subst, sym}
use mathlib.Core.Bool.{Bool, true, false, ◌&&◌, ◌||◌}
use mathlib.Core.List.{List, [], ◌∷◌, ◌++◌}
use mathlib.Core.Logic.{inl, inr}
use native.Mathlib.Omega.{arith}
use lib.ListN.{length, length-append}
use lib.Dec.{eqb, leb}
use borrow.Author.Tests.{le-leb, eq-eqb, ne_eqb, eqb-true, eqb-false}
use Rattle.refusal.specs.declared.Refusal.TheVariants as R
use Rattle.refusal.specs.Numbers.{number}
use Rattle.room.specs.Choice.{pick}
use Rattle.room.proofs.Choices.{never, no_way}
use Rattle.records.specs.declared.Operation.{Operation}
use Rattle.records.specs.Tokens.{tokens_lent}
use Rattle.verdict.specs.Verdicts.{and_then, Verdict, accepted}
use Rattle.verdict.specs.Points.{points_from}
use Rattle.sizes.specs.Texts.{total, claimed_by, inserted_by}
use Rattle.sizes.specs.Sizes.{merging}
use Rattle.shapes.specs.Tiling.{tiling_from, within_from}
use Rattle.shapes.specs.Accepted.{Tiles, Shapes}
use Rattle.shapes.proofs.Accepted.{records_yes}
use Rattle.checks.specs.Lists.{lists_verdict}
use Rattle.checks.proofs.Accepted.{accepted_left, accepted_right}
use Rattle.raw_lists.specs.Raws.{Piece, Run, flat_spans, flat_keys}
use Rattle.raw_lists.proofs.Pieces.{length_spans, length_keys}
use Rattle.elongate.specs.Elongated.{Parts, parts, together, arranged, joinable, last_right, join, joined_from, joined, elongated, pieces_length, consumes, cooked_from, all_tokens}
use Rattle.elongate.specs.Kept.{chosen}
use Rattle.elongate.proofs.Arranging.{by_kind}
use Rattle.elongate.proofs.Joining.{by_test, joins_on, joins_apart}
use Rattle.elongate.proofs.Lengths.{pieces_append}
use Rattle.elongate.proofs.Laws.{keeps}
use Rattle.edit_format.specs.Items.{Item, Keep, Drop, Add, kept, dropped, added, texts, items_good}
use Rattle.edit_format.specs.Records.{size}
use Rattle.edit_format.specs.Reading.{read_file}
use Rattle.edit_format.proofs.Accepts.{accepted_good}
use Rattle.edit_format.proofs.TextLaws.{texts_length}
use Rattle.edit_list.specs.Raws.{run_of, runs_of, list_of, items_in}
use Rattle.edit_list.specs.Lists.{used_by}
use Rattle.edit_list.proofs.Bounds.{file_long}
use Rattle.edit_list.proofs.Runs.{PiecesIn, GoodRun, AllRuns, runs_good}
use Rattle.merging.specs.Lent.{lent_of as given}
use Rattle.merge_files.specs.declared.Outcome.{Outcome}
use Rattle.merge_files.specs.Program.{Output, refused, tokens_of, left_of, right_of, verdict_of, judged, merged_of, Written}
use Rattle.merge_files.specs.Steps.{Files, good_result}
use Rattle.merge_files.proofs.Added.{left_few, right_few, left_adds, right_adds, left_claims, right_claims}
use Rattle.merge_files.proofs.Unread.{Reaches}
use Rattle.merge_files.proofs.Padding.{pieces_both, left_reaches, right_reaches, added_fine}
use Rattle.std.specs.Prelude.{Ok, Err}

-- what a check of tiling can say

unfoldable TwoAlone : Verdict → Type 0
TwoAlone (Ok u) = Unit
TwoAlone (Err r) = number r ≡ 2

chosen_two : (b : Bool) (v w : Verdict) → TwoAlone v → TwoAlone w → TwoAlone (elim b as (λ (x : Bool). Verdict) [ true ↦ v | false ↦ w ])
chosen_two true v w h g = h
chosen_two false v w h g = g

then_two : (v w : Verdict) → TwoAlone v → TwoAlone w → TwoAlone (and_then v w)
unfolding TwoAlone
then_two (Ok u) w h g = g
then_two (Err r) w h g = h

accepts_two : TwoAlone accepted
unfolding TwoAlone
accepts_two = tt

refuses_two : (i : ℕ) → TwoAlone (Err (R.Tiling i))
unfolding TwoAlone
refuses_two i = refl

tiling_two : (n : ℕ) (os : List Operation) (i at : ℕ) → TwoAlone (tiling_from n os i at)
unfolding tiling_from
tiling_two n [] i at = chosen_two (eqb at n) accepted (Err (R.Tiling i)) accepts_two (refuses_two i)
tiling_two n (o ∷ os) i at =
    chosen_two (eqb o.kind 1) _ _ (tiling_two n os (i + 1) at)
    (chosen_two (eqb o.order at && leb (at + o.length) n) _ _ (tiling_two n os (i + 1) (at + o.length)) (refuses_two i))

judged_two : (v : Verdict) (file : List ℕ) → TwoAlone v → (v ≡ accepted → ⊥) → judged v file ≡ refused 2
unfolding judged TwoAlone
judged_two (Ok u) file h n = absurd (n refl)
judged_two (Err r) file h n = ap refused h

-- elongating keeps runs good

module _ (m : ℕ) where
  good_join : (c r : Run) → GoodRun m c → GoodRun m r → GoodRun m (join c r)
  good_join c r g h = record {
    known = g.known;
    some = omega (arith, length-append c.tokens r.tokens, g.some);
    inside = pieces_both m c.tokens r.tokens g.inside h.inside;
  }

  good_joined : (c : Run) (rs : List Run) → GoodRun m c → AllRuns m rs → AllRuns m (joined_from c rs)
  unfolding joined_from AllRuns
  good_joined c [] g h = (g, tt)
  good_joined c (r ∷ rs) g h =
      by_test (joinable c.kind (last_right c.tokens) r) (AllRuns m (joined_from c (r ∷ rs)))
      (λ t. rw (joins_on c r rs t) (good_joined (join c r) rs (good_join c r g h.0) h.1))
      (λ t. rw (joins_apart c r rs t) (g, good_joined r rs h.0 h.1))

  good_append : (rs ss : List Run) → AllRuns m rs → AllRuns m ss → AllRuns m (rs ++ ss)
  unfolding AllRuns
  good_append [] ss g h = h
  good_append (r ∷ rs) ss g h = (g.0, good_append rs ss g.1 h)

  record GoodParts (p : Parts Run) : Type 0 where
    deletes : AllRuns m p.deletes
    inserts : AllRuns m p.inserts
    rest : AllRuns m p.rest

  good_together : (p : Parts Run) → GoodParts p → AllRuns m (together p)
  good_together p g = good_append p.deletes (p.inserts ++ p.rest) g.deletes (good_append p.inserts p.rest g.inserts g.rest)

  good_parts : (rs : List Run) → AllRuns m rs → GoodParts (parts (λ r. r.kind) rs)
  unfolding parts AllRuns
  good_parts [] g = record { deletes = tt; inserts = tt; rest = tt }
  good_parts (r ∷ rs) g =
      let p = good_parts rs g.1 in
      by_kind r.kind (GoodParts (parts (λ q. q.kind) (r ∷ rs)))
      (λ k. rw (eq-eqb r.kind 2 k, parts) (record { deletes = tt; inserts = tt; rest = (g.0, good_together (parts (λ q. q.kind) rs) p) }))
      (λ k. rw (ne_eqb r.kind 2 (λ e. omega arith), eq-eqb r.kind 0 k, parts) (record { deletes = (g.0, p.deletes); inserts = p.inserts; rest = p.rest }))
      (λ k j. rw (ne_eqb r.kind 2 k, ne_eqb r.kind 0 j, parts) (record { deletes = p.deletes; inserts = (g.0, p.inserts); rest = p.rest }))

  good_all : (rs : List Run) → AllRuns m rs → AllRuns m (joined rs)
  unfolding AllRuns
  good_all [] g = g
  good_all (r ∷ rs) g = good_joined r rs g.0 g.1

  good_elongated : (rs : List Run) → AllRuns m rs → AllRuns m (elongated rs)
  unfolding elongated
  good_elongated rs g = good_all (arranged (λ r. r.kind) rs) (good_together (parts (λ r. r.kind) rs) (good_parts rs g))

  -- a run of good tokens has some text
  some_text : (ps : List Piece) → 0 < length ps → PiecesIn m ps → 0 < pieces_length ps
  unfolding PiecesIn pieces_length
  some_text [] l h = absurd (omega arith)
  some_text (p ∷ ps) l h = omega (arith, h.0)

  -- so the records of good runs are good, with inserts that lie in the text
  shapely : (n : ℕ) (spans keys : List ℕ) (rs : List Run) (at f : ℕ) → AllRuns m rs → Reaches n spans keys (cooked_from rs at f)
      → f + length (all_tokens rs) ≤ tokens_lent spans keys → Shapes n spans keys (cooked_from rs at f)
  unfolding AllRuns Reaches cooked_from all_tokens Shapes
  shapely n spans keys [] at f g h l = tt
  shapely n spans keys (r ∷ rs) at f g h l =
      let t : List Piece = r.tokens in
      let e = length-append t (all_tokens rs) in
      let s = some_text t g.0.some g.0.inside in (
        omega arith,
        (
          by_kind r.kind _
              (λ k. inr (record { kind = inr k; some = s }))
              (λ k. inr (record { kind = inl k; some = s }))
              (λ k j.
              let one : r.kind ≡ 1 = omega (arith, g.0.known) in
              inl (record { kind = one; some = g.0.some; lent = omega (arith, e); tokens = h.0 one })),
          shapely n spans keys rs (at + consumes r.kind (pieces_length t)) (f + length t) g.1 h.1 (omega (arith, e)),
        ),
      )

-- what a list uses of the original

abbrev uses : ℕ → Bool
uses k = eqb k 0 || eqb k 2

inserts_use_none : (k : ℕ) → (k ≡ 2 → ⊥) → (k ≡ 0 → ⊥) → uses k ≡ false
inserts_use_none k h g = rw (ne_eqb k 0 g, ne_eqb k 2 h)

inserts_do_not : (k : ℕ) → eqb k 1 ≡ true → uses k ≡ false
inserts_do_not k e = let h : k ≡ 1 = eqb-true k 1 e in inserts_use_none k (λ z. omega arith) (λ z. omega arith)

others_do : (k : ℕ) → k ≤ 2 → eqb k 1 ≡ false → uses k ≡ true
others_do k l e =
    by_kind k (uses k ≡ true) (λ z. rw (ne_eqb k 0 (λ y. omega arith), eq-eqb k 2 z)) (λ z. rw (eq-eqb k 0 z)) (λ z y. absurd (eqb-false k 1 e (omega arith)))

tiles_one : (b u : Bool) (n at : ℕ) (ps : List Piece) (rs : List Run) (f : ℕ) → (b ≡ true → u ≡ false) → (b ≡ false → u ≡ true)
    → ((k : ℕ) → Tiles n (cooked_from rs k f) k → k + pieces_length (chosen uses rs) ≡ n)
    → elim b as (λ (x : Bool). Type 0) [
      | true ↦ Tiles n (cooked_from rs (at + pick b 0 (pieces_length ps)) f) at
      | false ↦ (at ≡ at) × ((at + pieces_length ps ≤ n) × Tiles n (cooked_from rs (at + pick b 0 (pieces_length ps)) f) (at + pieces_length ps))
    ]
    → at + pieces_length (elim u as (λ (x : Bool). List Piece) [ true ↦ ps ++ chosen uses rs | false ↦ chosen uses rs ]) ≡ n
tiles_one true true n at ps rs f x y g h = never (x refl)
tiles_one true false n at ps rs f x y g h = let z : at + 0 ≡ at = omega arith in g at (rw z at h)
tiles_one false true n at ps rs f x y g h = omega (arith, g (at + pieces_length ps) h.1.1, pieces_append ps (chosen uses rs))
tiles_one false false n at ps rs f x y g h = no_way (y refl)

tiles_all : (m n : ℕ) (rs : List Run) (at f : ℕ) → AllRuns m rs → Tiles n (cooked_from rs at f) at → at + pieces_length (chosen uses rs) ≡ n
unfolding AllRuns cooked_from Tiles chosen pieces_length
tiles_all m n [] at f g h = omega (arith, h)
tiles_all m n (r ∷ rs) at f g h =
    tiles_one (eqb r.kind 1) (uses r.kind) n at r.tokens rs (f + length r.tokens) (inserts_do_not r.kind) (others_do r.kind g.0.known)
    (λ k. tiles_all m n rs k (f + length r.tokens) g.1) h

runs_used : (at : ℕ) (is : List Item) → pieces_length (chosen uses (runs_of at is)) ≡ kept is + dropped is
unfolding runs_of run_of chosen pieces_length kept dropped
runs_used at [] = refl
runs_used at (Keep n ∷ is) = omega (arith, runs_used (at + size (Keep n)) is)
runs_used at (Drop n ∷ is) = omega (arith, runs_used (at + size (Drop n)) is)
runs_used at (Add cs ∷ is) = omega (arith, runs_used (at + size (Add cs)) is)

module _ (is : List Item) (g : items_good false is ≡ true) where
  list_good : (at : ℕ) → AllRuns (kept is + dropped is + (at + added is)) (list_of at is)
  unfolding list_of
  list_good at = good_elongated _ (runs_of at is) (runs_good _ false at is g (omega arith) (omega arith))

  list_uses : (at f n : ℕ) → Tiles n (cooked_from (list_of at is) 0 f) 0 → kept is + dropped is ≡ n
  unfolding list_of
  list_uses at f n h =
      omega (
        arith,
        tiles_all _ n (list_of at is) 0 f (list_good at) h,
        ap pieces_length (keeps uses (inr inserts_use_none) (runs_of at is)),
        runs_used at is,
      )

module _ (original : List ℕ) (ls rs : List Item) (gl : items_good false ls ≡ true) (gr : items_good false rs ≡ true) (points : points_from original 0 ≡ accepted)
    (short : length original ≤ 65535) (few : (length ls + added ls) + (length rs + added rs) ≤ 4096) where
  abbrev text : List ℕ
  text = texts ls ++ texts rs

  abbrev spans : List ℕ
  spans = flat_spans (tokens_of ls rs)

  abbrev keys : List ℕ
  keys = flat_keys (tokens_of ls rs)

  lent_all : tokens_lent spans keys ≡ length (all_tokens (list_of 0 ls)) + length (all_tokens (list_of (length (texts ls)) rs))
  unfolding tokens_of
  lent_all = omega (arith, length_spans (tokens_of ls rs), length_keys (tokens_of ls rs), length-append (all_tokens (list_of 0 ls)) (all_tokens (list_of (length (texts ls)) rs)))

  two_alone : TwoAlone (lists_verdict merging original text spans keys (left_of ls) (right_of ls rs) [] [])
  unfolding lists_verdict within_from
  two_alone =
      rw (
        le-leb (length original) 65535 short,
        le-leb (length text) 131070 (omega (arith, few, length-append (texts ls) (texts rs), texts_length ls, texts_length rs)),
        le-leb (length (left_of ls)) 4096 (omega (arith, left_few ls rs)),
        le-leb (length (right_of ls rs)) 4096 (omega (arith, right_few ls rs)),
        le-leb (total claimed_by (left_of ls)) 8192 (omega (arith, left_claims ls rs)),
        le-leb (total claimed_by (right_of ls rs)) 8192 (omega (arith, right_claims ls rs)),
        le-leb (total (inserted_by (length text) spans keys) (left_of ls)) 65535 (omega (arith, left_adds ls rs (length text) keys)),
        le-leb (total (inserted_by (length text) spans keys) (right_of ls rs)) 65535 (omega (arith, right_adds ls rs (length text) keys)),
        points,
        added_fine original ls rs gl gr,
        records_yes (length text) spans keys (left_of ls) 0
            (shapely _ (length text) spans keys (list_of 0 ls) 0 0 (list_good ls gl 0) (left_reaches original ls rs gl gr) (omega (arith, lent_all))),
        records_yes (length text) spans keys (right_of ls rs) 0
            (shapely _ (length text) spans keys (list_of (length (texts ls)) rs) 0 (length (all_tokens (list_of 0 ls))) (list_good rs gr (length (texts ls))) (right_reaches original ls rs gl gr) (omega (arith, lent_all))),
      )
      (then_two _ _ (then_two _ _ (tiling_two (length original) (left_of ls) 0 0) (tiling_two (length original) (right_of ls rs) 0 0)) accepts_two)

  unfit : (kept ls + dropped ls ≡ length original → kept rs + dropped rs ≡ length original → ⊥)
      → merged_of (given original text spans keys) (left_of ls) (right_of ls rs) ≡ refused 2
  unfolding merged_of verdict_of
  unfit h =
      judged_two _ _ two_alone
      (λ passed. h
      (list_uses ls gl 0 0 (length original) (accepted_left merging original text spans keys (left_of ls) (right_of ls rs) [] [] passed).tiles)
      (list_uses rs gr (length (texts ls)) (length (all_tokens (list_of 0 ls))) (length original) (accepted_right merging original text spans keys (left_of ls) (right_of ls rs) [] [] passed).tiles))

-- of two files
pub unfit_files : (original l r : List ℕ) → Files l r → points_from original 0 ≡ accepted → length original ≤ 2048
    → (used_by l ≡ length original → used_by r ≡ length original → ⊥)
    → (out out' : List ℕ) (z : Outcome) → Written (refused 2) out out' z → Written (good_result original (read_file l) (read_file r)) out out' z
unfit_files original l r F points short h out out' z w =
    let ls : List Item = items_in (read_file l) in
    let rs : List Item = items_in (read_file r) in
    let e = unfit original ls rs (accepted_good l F.left_accepted).each (accepted_good r F.right_accepted).each points (omega (arith, short))
    (omega (arith, file_long l F.left_accepted, file_long r F.right_accepted, F.left_short, F.right_short, texts_length ls, texts_length rs)) h in
    subst (λ (x : Output). Written x out out' z) (sym e) w
