-- Shown: the zeros behind the added code points change nothing of what the program writes: the merge of two files goes by the code points that they add.
-- How: elongating keeps the insert tokens, each of which is one of those code points; and nothing else of the lent text is read.
use Prim.Native.Nat.{ℕ, ◌+◌, ◌*◌, ◌≤◌}
use mathlib.Core.Path.{◌≡◌, refl, sym, ◌∙◌, ap}
use mathlib.Core.Bool.{Bool, true, false}
use mathlib.Core.List.{List, [], ◌∷◌, ◌++◌, append_assoc, append-nil}
use mathlib.Core.Logic.{inl}
use native.Mathlib.Omega.{arith}
use lib.ListN.{length, drop, get_or, length-append, length-drop}
use lib.Seq.{drop-nil}
use lib.Dec.{eqb}
use borrow.Author.Tests.{eq-eqb}
use Rattle.room.specs.Placed.{placed}
use Rattle.room.proofs.Answers.{at_start, one_more}
use Rattle.records.specs.declared.Operation.{Operation}
use Rattle.records.specs.Tokens.{tokens_from}
use Rattle.verdict.specs.Points.{points_from}
use Rattle.sizes.specs.Sizes.{merging}
use Rattle.shapes.specs.Accepted.{AllIn}
use Rattle.checks.proofs.Accepted.{accepted_left, accepted_right}
use Rattle.raw_lists.specs.Raws.{Piece, Run, flat_spans, flat_keys}
use Rattle.raw_lists.proofs.Pieces.{length_spans, spans_append}
use Rattle.elongate.specs.Elongated.{pieces_length, consumes, cooked_from, all_tokens}
use Rattle.elongate.specs.Kept.{chosen}
use Rattle.elongate.proofs.Laws.{keeps}
use Rattle.edit_format.specs.Items.{Item, Keep, Drop, Add, added, texts, items_good}
use Rattle.edit_format.specs.Records.{size}
use Rattle.edit_format.proofs.TextLaws.{texts_length}
use Rattle.merging.specs.declared.Op.{Op}
use Rattle.merging.specs.declared.Op.TheVariants.{Delete, Insert, Retain}
use Rattle.merging.specs.Lent.{Lent, lent_of as given, rules_of}
use Rattle.merging.specs.Operations.{ops_from}
use Rattle.merging.specs.Merge.{Merged, merge_of}
use Rattle.merging.specs.Tiling.{Inserts}
use Rattle.merging_laws.proofs.Decoding.{Run as Lends, runs}
use Rattle.merging_laws.proofs.Accepted.{merged_accepted}
use Rattle.to_diff.specs.Items.{items_of, diff_of}
use Rattle.edit_format.specs.Written.{written}
use Rattle.edit_list.specs.Raws.{point_tokens, run_of, runs_of, list_of}
use Rattle.edit_list.proofs.Back.{drop_past, left_at}
use Rattle.edit_list.proofs.Points.{good_text}
use Rattle.edit_list.proofs.Runs.{PiecesIn, points_in}
use Rattle.merge_files.specs.Program.{text_of, tokens_of, left_of, right_of, lent_of, verdict_of, file_of, judged, merged_of}
use Rattle.merge_files.proofs.Added.{inserts, left_stand, right_stand}
use Rattle.merge_files.proofs.Unread.{Reaches, Reach, verdict_same, merge_same, diff_same}
use Rattle.std.specs.Prelude.{Ok, Err}
use Rattle.verdict.specs.Verdicts.{Verdict, accepted}

-- tokens in a text

pieces_left : (n : ℕ) (ps qs : List Piece) → PiecesIn n (ps ++ qs) → PiecesIn n ps
unfolding PiecesIn
pieces_left n [] qs h = tt
pieces_left n (p ∷ ps) qs h = (h.0, (h.1.0, pieces_left n ps qs h.1.1))

pieces_right : (n : ℕ) (ps qs : List Piece) → PiecesIn n (ps ++ qs) → PiecesIn n qs
unfolding PiecesIn
pieces_right n [] qs h = h
pieces_right n (p ∷ ps) qs h = pieces_right n ps qs h.1.1

pub pieces_both : (n : ℕ) (ps qs : List Piece) → PiecesIn n ps → PiecesIn n qs → PiecesIn n (ps ++ qs)
unfolding PiecesIn
pieces_both n [] qs h g = g
pieces_both n (p ∷ ps) qs h g = (h.0, (h.1.0, pieces_both n ps qs h.1.1 g))

-- a run of tokens that stands among the spans
run_reaches : (n : ℕ) (spans keys : List ℕ) (ps : List Piece) (f : ℕ) (q : List ℕ) → drop (f * 2) spans ≡ flat_spans ps ++ q → PiecesIn n ps
    → AllIn n (tokens_from spans keys f (length ps))
unfolding tokens_from flat_spans PiecesIn AllIn
run_reaches n spans keys [] f q e h = tt
run_reaches n spans keys (p ∷ ps) f q e h =
    let z : f * 2 + 0 ≡ f * 2 = omega arith in
    let s : get_or spans (f * 2) 0 ≡ p.start = rw z at (left_at 0 (f * 2) 0 spans (p.start ∷ p.length ∷ (flat_spans ps ++ q)) e) in
    let l : get_or spans (f * 2 + 1) 0 ≡ p.length = left_at 0 (f * 2) 1 spans (p.start ∷ p.length ∷ (flat_spans ps ++ q)) e in
    let r = drop_past (f * 2) ((f + 1) * 2) 2 spans (p.start ∷ p.length ∷ []) (flat_spans ps ++ q) e refl (omega arith) in
    (omega (arith, l, h.0), (omega (arith, s, l, h.1.0), run_reaches n spans keys ps (f + 1) q r h.1.1))

chosen_rest : (n : ℕ) (b : Bool) (ps qs : List Piece) → PiecesIn n (elim b as (λ (x : Bool). List Piece) [ true ↦ ps ++ qs | false ↦ qs ]) → PiecesIn n qs
chosen_rest n true ps qs h = pieces_right n ps qs h
chosen_rest n false ps qs h = h

chosen_first : (n : ℕ) (b : Bool) (ps qs : List Piece) → b ≡ true
    → PiecesIn n (elim b as (λ (x : Bool). List Piece) [ true ↦ ps ++ qs | false ↦ qs ]) → PiecesIn n ps
chosen_first n b ps qs e h = pieces_left n ps qs (rw e at h)

-- a list whose tokens stand among the spans
cooked_reaches : (n : ℕ) (spans keys : List ℕ) (rs : List Run) (at f : ℕ) (q : List ℕ) → drop (f * 2) spans ≡ flat_spans (all_tokens rs) ++ q
    → PiecesIn n (chosen inserts rs) → Reaches n spans keys (cooked_from rs at f)
unfolding cooked_from all_tokens chosen Reaches
cooked_reaches n spans keys [] at f q e h = tt
cooked_reaches n spans keys (r ∷ rs) at f q e h =
    let t : List Piece = r.tokens in
    let g : drop (f * 2) spans ≡ flat_spans t ++ (flat_spans (all_tokens rs) ++ q) =
    e ∙ (ap (λ (z : List ℕ). z ++ q) (spans_append t (all_tokens rs)) ∙ append_assoc (flat_spans t) (flat_spans (all_tokens rs)) q)
    in
    let d = drop_past (f * 2) ((f + length t) * 2) (length t * 2) spans (flat_spans t) (flat_spans (all_tokens rs) ++ q) g (sym (length_spans t)) (omega arith) in (
      λ k. run_reaches n spans keys t f (flat_spans (all_tokens rs) ++ q) g (chosen_first n (eqb r.kind 1) t (chosen inserts rs) (eq-eqb r.kind 1 k) h),
      cooked_reaches n spans keys rs (at + consumes r.kind (pieces_length t)) (f + length t) q d (chosen_rest n (eqb r.kind 1) t (chosen inserts rs) h),
    )

-- the tokens that a file's items insert
added_reach : (n at : ℕ) (is : List Item) → at + added is ≤ n → PiecesIn n (chosen inserts (runs_of at is))
unfolding runs_of run_of chosen added PiecesIn size
added_reach n at [] h = tt
added_reach n at (Keep k ∷ is) h = added_reach n (at + 0) is (omega arith)
added_reach n at (Drop k ∷ is) h = added_reach n (at + 0) is (omega arith)
added_reach n at (Add cs ∷ is) h =
    pieces_both n (point_tokens at cs) (chosen inserts (runs_of (at + length cs) is)) (points_in at n cs (omega arith)) (added_reach n (at + length cs) is (omega arith))

list_reaches : (n : ℕ) (spans keys : List ℕ) (is : List Item) (at place f : ℕ) (q : List ℕ) → drop (f * 2) spans ≡ flat_spans (all_tokens (list_of at is)) ++ q
    → at + added is ≤ n → Reaches n spans keys (cooked_from (list_of at is) place f)
unfolding list_of
list_reaches n spans keys is at place f q e h =
    cooked_reaches n spans keys (list_of at is) place f q e (rw (keeps inserts (inl refl) (runs_of at is)) (added_reach n at is h))

-- by the verdict
judged_same : (v : Verdict) (f g : List ℕ) → (v ≡ accepted → f ≡ g) → judged v f ≡ judged v g
unfolding judged
judged_same (Ok u) f g h = ap (judged accepted) (h refl)
judged_same (Err r) f g h = refl

module _ (original : List ℕ) (ls rs : List Item) (gl : items_good false ls ≡ true) (gr : items_good false rs ≡ true) where
  abbrev text : List ℕ
  text = texts ls ++ texts rs

  abbrev spans : List ℕ
  spans = flat_spans (tokens_of ls rs)

  abbrev keys : List ℕ
  keys = flat_keys (tokens_of ls rs)

  -- what is lent, with no zeros
  abbrev lent : Lent
  lent = given original text spans keys

  pub left_reaches : Reaches (length text) spans keys (left_of ls)
  left_reaches =
      list_reaches (length text) spans keys ls 0 0 0 (flat_spans (all_tokens (list_of (length (texts ls)) rs))) (left_stand ls rs)
      (omega (arith, length-append (texts ls) (texts rs), texts_length ls))

  pub right_reaches : Reaches (length text) spans keys (right_of ls rs)
  right_reaches =
      list_reaches (length text) spans keys rs (length (texts ls)) 0 (length (all_tokens (list_of 0 ls))) [] (right_stand ls rs)
      (omega (arith, length-append (texts ls) (texts rs), texts_length rs))

  -- code points added to code points
  fine : (d : List ℕ) → points_from d 0 ≡ accepted → points_from (text ++ drop (length text) d) 0 ≡ accepted
  fine d h =
      let e : placed (placed d 0 (texts ls)) (length (texts ls)) (texts rs) ≡ text ++ drop (length text) d = rw (at_start (texts ls) d) (one_more (texts ls) (texts rs) d) in
      rw e at (good_text (placed d 0 (texts ls)) (length (texts ls)) rs (good_text d 0 ls h gl) gr)

  pub added_fine : points_from text 0 ≡ accepted
  unfolding points_from
  added_fine = rw (drop-nil {A = ℕ} (length text), append-nil text) at (fine [] refl)

  module _ (d : List ℕ) (p : points_from d 0 ≡ accepted) (most : length d ≤ 131070) (few : length text ≤ 131070) where
    abbrev more : List ℕ
    more = drop (length text) d

    verdict_is : verdict_of (given original (text ++ more) spans keys) (left_of ls) (right_of ls rs) ≡ verdict_of lent (left_of ls) (right_of ls rs)
    unfolding verdict_of
    verdict_is =
        verdict_same original spans keys text more (left_of ls) (right_of ls rs) left_reaches right_reaches
        (omega (arith, length-append text more, length-drop (length text) d)) added_fine (fine d p)

    reach : (os : List Op) → Inserts (Lends lent) os → Inserts (Reach original spans keys text more) os
    unfolding Inserts
    reach [] h = tt
    reach (Delete o l ∷ os) h = reach os h
    reach (Insert o f n ∷ os) h = (h.0.tokens, reach os h.1)
    reach (Retain o l ∷ os) h = reach os h

    file_is : verdict_of lent (left_of ls) (right_of ls rs) ≡ accepted
        → file_of (given original (text ++ more) spans keys) (left_of ls) (right_of ls rs) ≡ file_of lent (left_of ls) (right_of ls rs)
    unfolding verdict_of file_of diff_of
    file_is passed =
        let al = accepted_left merging original text spans keys (left_of ls) (right_of ls rs) [] [] passed in
        let ar = accepted_right merging original text spans keys (left_of ls) (right_of ls rs) [] [] passed in
        let m = merged_accepted lent (left_of ls) (right_of ls rs) [] [] al ar in
        let ops : List Operation = (merge_of (rules_of lent) (left_of ls) (right_of ls rs) [] []).operations in
        let hl = reach (ops_from 0 (left_of ls)) (runs lent (length original) (left_of ls) 0 (record { shapes = al.shapes; tiles = al.tiles })) in
        let hr = reach (ops_from 0 (right_of ls rs)) (runs lent (length original) (right_of ls rs) 0 (record { shapes = ar.shapes; tiles = ar.tiles })) in
        let ho = reach (ops_from 0 ops) (runs lent (length original) ops 0 (record { shapes = m.shapes; tiles = m.tiles })) in
        ap (λ (x : Merged). written (diff_of (given original (text ++ more) spans keys) x.operations)) (merge_same original spans keys text more (left_of ls) (right_of ls rs) [] [] hl hr)
        ∙ ap (λ es. written (items_of es)) (diff_same original spans keys text more (ops_from 0 ops) ho)

    pub padded : merged_of (lent_of d original ls rs) (left_of ls) (right_of ls rs) ≡ merged_of lent (left_of ls) (right_of ls rs)
    unfolding text_of merged_of
    padded =
        ap (λ (v : Verdict). judged v (file_of (given original (text ++ more) spans keys) (left_of ls) (right_of ls rs))) verdict_is
        ∙ judged_same (verdict_of lent (left_of ls) (right_of ls rs)) (file_of (given original (text ++ more) spans keys) (left_of ls) (right_of ls rs)) (file_of lent (left_of ls) (right_of ls rs)) file_is
