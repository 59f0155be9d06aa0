-- Shown: the list of a file has no more operations than the file has items, and its inserts have a token for each code point that the file adds and no more text, wherever its tokens stand among those that are lent.
-- How: elongating keeps the insert tokens, and each is one code point long.
use Prim.Native.Nat.{ℕ, ◌+◌, ◌*◌, ◌≤◌}
use mathlib.Core.Path.{◌≡◌, refl, sym, ◌∙◌, ap}
use mathlib.Core.Bool.{Bool, true, false, ◌&&◌}
use mathlib.Core.List.{List, [], ◌∷◌, ◌++◌, append_assoc, append-nil}
use mathlib.Core.Logic.{inl}
use native.Mathlib.Omega.{arith}
use lib.ListN.{length, drop, get_or, length-append}
use lib.Dec.{eqb}
use Rattle.room.specs.Choice.{pick}
use Rattle.records.specs.Tokens.{tokens_from}
use Rattle.sizes.specs.Texts.{total, in_text, run_text, run_lent, claimed_by, inserted_by}
use Rattle.raw_lists.specs.Raws.{Piece, Run, flat_spans}
use Rattle.elongate.specs.Elongated.{pieces_length, consumes, cooked_from, all_tokens}
use Rattle.elongate.specs.Kept.{chosen}
use Rattle.elongate.proofs.Lengths.{pieces_append}
use Rattle.elongate.proofs.Joining.{cooked_length}
use Rattle.elongate.proofs.Laws.{keeps, no_longer}
use Rattle.edit_format.specs.Items.{Item, Keep, Drop, Add, added, texts}
use Rattle.edit_format.specs.Records.{size}
use Rattle.edit_list.specs.Raws.{point_tokens, run_of, runs_of, list_of}
use Rattle.edit_list.proofs.Back.{drop_past, left_at}
use Rattle.raw_lists.proofs.Pieces.{length_spans, spans_append}
use Rattle.merge_files.specs.Program.{tokens_of, left_of, right_of}
use Rattle.edit_list.proofs.Runs.{points_length, points_size, runs_length}

-- the kind of inserts
abbrev pub inserts : ℕ → Bool
inserts k = eqb k 1

picked : (b : Bool) (n m : ℕ) → n ≤ m → pick b n 0 ≤ m
picked true n m h = h
picked false n m h = omega arith

-- a run of tokens that stands among the spans
run_most : (n : ℕ) (spans keys : List ℕ) (ps : List Piece) (f : ℕ) (q : List ℕ) → drop (f * 2) spans ≡ flat_spans ps ++ q
    → run_text n (tokens_from spans keys f (length ps)) ≤ pieces_length ps
unfolding run_text tokens_from flat_spans pieces_length
run_most n spans keys [] f q e = omega arith
run_most n spans keys (p ∷ ps) f q e =
    let l : get_or spans (f * 2 + 1) 0 ≡ p.length = left_at 0 (f * 2) 1 spans (p.start ∷ p.length ∷ (flat_spans ps ++ q)) e in
    let r = drop_past (f * 2) ((f + 1) * 2) 2 spans (p.start ∷ p.length ∷ []) (flat_spans ps ++ q) e refl (omega arith) in
    omega (
      arith,
      picked (in_text n (record { start = get_or spans (f * 2) 0; length = get_or spans (f * 2 + 1) 0; key = get_or keys f 0 })) (get_or spans (f * 2 + 1) 0) p.length (omega (arith, l)),
      run_most n spans keys ps (f + 1) q r,
    )

inserted_one : (a b : Bool) (n : ℕ) (ps qs : List Piece) (m : ℕ) → n ≤ pieces_length ps → m ≤ pieces_length qs
    → elim (a && b) as (λ (x : Bool). ℕ) [ true ↦ n | false ↦ 0 ] + m ≤ pieces_length (elim a as (λ (x : Bool). List Piece) [ true ↦ ps ++ qs | false ↦ qs ])
inserted_one true true n ps qs m h g = omega (arith, pieces_append ps qs)
inserted_one true false n ps qs m h g = omega (arith, pieces_append ps qs)
inserted_one false b n ps qs m h g = omega arith

inserted_most : (n : ℕ) (spans keys : List ℕ) (rs : List Run) (at f : ℕ) (q : List ℕ) → drop (f * 2) spans ≡ flat_spans (all_tokens rs) ++ q
    → total (inserted_by n spans keys) (cooked_from rs at f) ≤ pieces_length (chosen inserts rs)
unfolding total cooked_from all_tokens chosen pieces_length
inserted_most n spans keys [] at f q e = omega arith
inserted_most n spans keys (r ∷ rs) at f q e =
    let t : List Piece = r.tokens in
    let g : drop (f * 2) spans ≡ flat_spans t ++ (flat_spans (all_tokens rs) ++ q) =
    e ∙ (ap (λ (z : List ℕ). z ++ q) (spans_append t (all_tokens rs)) ∙ append_assoc (flat_spans t) (flat_spans (all_tokens rs)) q)
    in
    let d = drop_past (f * 2) ((f + length t) * 2) (length t * 2) spans (flat_spans t) (flat_spans (all_tokens rs) ++ q) g (sym (length_spans t)) (omega arith) in
    inserted_one (eqb r.kind 1) (run_lent spans keys (record { kind = r.kind; order = at; length = pieces_length t; side = 0; first = f; count = length t }))
    (run_text n (tokens_from spans keys f (length t))) t (chosen inserts rs)
    (total (inserted_by n spans keys) (cooked_from rs (at + consumes r.kind (pieces_length t)) (f + length t)))
    (run_most n spans keys t f (flat_spans (all_tokens rs) ++ q) g)
    (inserted_most n spans keys rs (at + consumes r.kind (pieces_length t)) (f + length t) q d)

runs_added : (at : ℕ) (is : List Item) → pieces_length (chosen inserts (runs_of at is)) ≡ added is
unfolding runs_of run_of chosen pieces_length added
runs_added at [] = refl
runs_added at (Keep n ∷ is) = runs_added (at + size (Keep n)) is
runs_added at (Drop n ∷ is) = runs_added (at + size (Drop n)) is
runs_added at (Add cs ∷ is) =
    omega (
      arith,
      runs_added (at + size (Add cs)) is,
      pieces_append (point_tokens at cs) (chosen inserts (runs_of (at + size (Add cs)) is)),
      points_size at cs,
    )

list_adds : (n : ℕ) (spans keys : List ℕ) (is : List Item) (at place f : ℕ) (q : List ℕ) → drop (f * 2) spans ≡ flat_spans (all_tokens (list_of at is)) ++ q
    → total (inserted_by n spans keys) (cooked_from (list_of at is) place f) ≤ added is
unfolding list_of
list_adds n spans keys is at place f q e =
    omega (
      arith,
      inserted_most n spans keys (list_of at is) place f q e,
      ap pieces_length (keeps inserts (inl refl) (runs_of at is)),
      runs_added at is,
    )

-- how many tokens its inserts have
claimed_one : (a : Bool) (ps qs : List Piece) (m : ℕ) → m ≡ length qs
    → pick a (length ps) 0 + m ≡ length {A = Piece} (elim a as (λ (x : Bool). List Piece) [ true ↦ ps ++ qs | false ↦ qs ])
claimed_one true ps qs m h = omega (arith, length-append ps qs)
claimed_one false ps qs m h = omega arith

claimed_all : (rs : List Run) (at f : ℕ) → total claimed_by (cooked_from rs at f) ≡ length (chosen inserts rs)
unfolding total cooked_from chosen
claimed_all [] at f = refl
claimed_all (r ∷ rs) at f =
    claimed_one (eqb r.kind 1) r.tokens (chosen inserts rs) (total claimed_by (cooked_from rs (at + consumes r.kind (pieces_length r.tokens)) (f + length r.tokens)))
    (claimed_all rs (at + consumes r.kind (pieces_length r.tokens)) (f + length r.tokens))

runs_claim : (at : ℕ) (is : List Item) → length (chosen inserts (runs_of at is)) ≡ added is
unfolding runs_of run_of chosen added
runs_claim at [] = refl
runs_claim at (Keep n ∷ is) = runs_claim (at + size (Keep n)) is
runs_claim at (Drop n ∷ is) = runs_claim (at + size (Drop n)) is
runs_claim at (Add cs ∷ is) =
    omega (
      arith,
      runs_claim (at + size (Add cs)) is,
      length-append (point_tokens at cs) (chosen inserts (runs_of (at + size (Add cs)) is)),
      points_length at cs,
    )

list_claims : (is : List Item) (at place f : ℕ) → total claimed_by (cooked_from (list_of at is) place f) ≡ added is
unfolding list_of
list_claims is at place f = claimed_all (list_of at is) place f ∙ (ap length (keeps inserts (inl refl) (runs_of at is)) ∙ runs_claim at is)

list_few : (is : List Item) (at place f : ℕ) → length (cooked_from (list_of at is) place f) ≤ length is
unfolding list_of
list_few is at place f = omega (arith, cooked_length (list_of at is) place f, no_longer (runs_of at is), runs_length at is)

-- the tokens of both lists, left before right
module _ (ls rs : List Item) where
  abbrev lt : List Piece
  lt = all_tokens (list_of 0 ls)

  abbrev rt : List Piece
  rt = all_tokens (list_of (length (texts ls)) rs)

  pub left_stand : flat_spans (tokens_of ls rs) ≡ flat_spans lt ++ flat_spans rt
  unfolding tokens_of
  left_stand = spans_append lt rt

  pub right_stand : drop (length lt * 2) (flat_spans (tokens_of ls rs)) ≡ flat_spans rt ++ []
  right_stand =
      let e : flat_spans (tokens_of ls rs) ≡ flat_spans lt ++ (flat_spans rt ++ []) = left_stand ∙ ap (λ (z : List ℕ). flat_spans lt ++ z) (sym (append-nil (flat_spans rt))) in
      drop_past 0 (length lt * 2) (length lt * 2) (flat_spans (tokens_of ls rs)) (flat_spans lt) (flat_spans rt ++ []) e (sym (length_spans lt)) (omega arith)

  pub left_adds : (n : ℕ) (keys : List ℕ) → total (inserted_by n (flat_spans (tokens_of ls rs)) keys) (left_of ls) ≤ added ls
  left_adds n keys = list_adds n (flat_spans (tokens_of ls rs)) keys ls 0 0 0 (flat_spans rt) left_stand

  pub right_adds : (n : ℕ) (keys : List ℕ) → total (inserted_by n (flat_spans (tokens_of ls rs)) keys) (right_of ls rs) ≤ added rs
  right_adds n keys = list_adds n (flat_spans (tokens_of ls rs)) keys rs (length (texts ls)) 0 (length lt) [] right_stand

  pub left_claims : total claimed_by (left_of ls) ≡ added ls
  left_claims = list_claims ls 0 0 0

  pub right_claims : total claimed_by (right_of ls rs) ≡ added rs
  right_claims = list_claims rs (length (texts ls)) 0 (length lt)

  pub left_few : length (left_of ls) ≤ length ls
  left_few = list_few ls 0 0 0

  pub right_few : length (right_of ls rs) ≤ length rs
  right_few = list_few rs (length (texts ls)) 0 (length lt)
