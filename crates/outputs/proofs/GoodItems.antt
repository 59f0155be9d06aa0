-- Shown: the diff of an accepted list has no zero, no empty text and no two retains in a row, and keeps the sizes of edit files; and it mentions all of the original.
-- How: by induction on the operations, which tile the original, none being empty.
use Prim.Native.Nat.{ℕ, ◌+◌, ◌<◌}
use mathlib.Core.Path.{◌≡◌, refl}
use mathlib.Core.Bool.{true, false, not, ◌&&◌}
use mathlib.Core.List.{List, [], ◌∷◌}
use native.Mathlib.Omega.{arith}
use lib.ListN.{length}
use lib.Dec.{leb}
use borrow.Author.Tests.{le-leb}
use Rattle.room.proofs.Bools.{and_right}
use Rattle.records.specs.declared.Operation.{Operation}
use Rattle.records.specs.declared.Token.{Token}
use Rattle.records.specs.Tokens.{tokens_from, spelled, tokens_length}
use Rattle.records.proofs.TokenLaws.{length_from}
use Rattle.diff.specs.Replay.{Edit, retain, delete, insert, mentioned}
use Rattle.sizes.specs.Sizes.{otherwise}
use Rattle.verdict.specs.Points.{points_from}
use Rattle.checks.specs.Lists.{list_verdict}
use Rattle.shapes.specs.Accepted.{AllIn, AcceptedList}
use Rattle.verdict.proofs.Chains.{first_passed, rest_passed}
use Rattle.shapes.proofs.Accepted.{spelled_length}
use Rattle.checks.proofs.Accepted.{accepted_list}
use Rattle.edit_format.specs.Items.{kept, dropped, all_points, items_good, Good}
use Rattle.edit_write.proofs.Goodness.{all_points_lem}
use Rattle.merging.specs.declared.Op.{Op}
use Rattle.merging.specs.declared.Op.TheVariants.{Delete, Insert, Retain}
use Rattle.merging.specs.Lent.{Lent}
use Rattle.merging.specs.Operations.{ops_from}
use Rattle.merging.specs.Outputs.{joined, to_diff}
use Rattle.merging.specs.Tiling.{Tiled, Inserts}
use Rattle.merging.proofs.OutputLaws.{diff_mentioned}
use Rattle.merging_laws.proofs.Decoding.{Run, Listed, tiled, runs}
use Rattle.merging_laws.proofs.Outputs.{diff_fits}
use Rattle.to_diff.specs.Items.{item_of, items_of, diff_of}
use Rattle.to_diff.specs.Answers.{verdict_on}
use Rattle.to_diff.proofs.Joining.{length_items, added_items}
use Rattle.outputs.proofs.Points.{points_spelled}
use Rattle.verdict.specs.Verdicts.{accepted}

-- an insert's text is not empty
some_spelled : (text : List ℕ) (ts : List Token) → AllIn (length text) ts → 0 < length ts → 0 < length (spelled text ts)
unfolding AllIn tokens_length
some_spelled text [] a h = absurd (omega arith)
some_spelled text (t ∷ ts) a h = omega (arith, spelled_length text (t ∷ ts) a, a.0)

-- a retain joined in front
good_joined : (l : ℕ) (es : List Edit) → 0 < l → items_good false (items_of es) ≡ true → items_good false (items_of (joined l es)) ≡ true
unfolding items_good items_of item_of
good_joined l [] h g = rw (le-leb 1 l (omega arith))
good_joined l (retain n ∷ es) h g = rw (le-leb 1 (l + n) (omega arith)) (and_right (leb 1 n && not false) (items_good true (items_of es)) g)
good_joined l (delete n ∷ es) h g = rw (le-leb 1 l (omega arith)) g
good_joined l (insert s ∷ es) h g = rw (le-leb 1 l (omega arith)) g

-- "a zero, an empty text or a second neighbouring keep": none
good_diff : (lent : Lent) (ls : List Op) (at n : ℕ) → all_points lent.inserted ≡ true → Tiled ls at n → Inserts (Run lent) ls
    → items_good false (items_of (to_diff lent ls)) ≡ true
unfolding to_diff items_of item_of items_good Inserts
good_diff lent [] at n p t i = refl
good_diff lent (Delete o l ∷ ls) at n p t i = rw (le-leb 1 l (omega (arith, t.1))) (good_diff lent ls (o + l) n p t.2 i)
good_diff lent (Insert o f k ∷ ls) at n p t i =
    let ts : List Token = tokens_from lent.spans lent.keys f k in
    let s = some_spelled lent.inserted ts i.0.tokens (omega (arith, length_from lent.spans lent.keys f k, t.1)) in
    rw (le-leb 1 (length (spelled lent.inserted ts)) (omega arith), points_spelled lent.inserted ts p) (good_diff lent ls at n p t.2 i.1)
good_diff lent (Retain o l ∷ ls) at n p t i = good_joined l (to_diff lent ls) t.1 (good_diff lent ls (o + l) n p t.2 i)

-- what the items keep and drop is what the edits mention
items_mentioned : (es : List Edit) → kept (items_of es) + dropped (items_of es) ≡ mentioned es
unfolding items_of item_of kept dropped mentioned
items_mentioned [] = refl
items_mentioned (retain n ∷ es) = omega (arith, items_mentioned es)
items_mentioned (delete n ∷ es) = omega (arith, items_mentioned es)
items_mentioned (insert s ∷ es) = items_mentioned es

-- an accepted list, as the laws of its diff want it
pub record Accepts (lent : Lent) (os : List Operation) : Type 0 where
  pub list : AcceptedList otherwise lent.original lent.inserted lent.spans lent.keys os []
  pub original : all_points lent.original ≡ true
  pub inserted : all_points lent.inserted ≡ true

pub accepts : (lent : Lent) (os : List Operation) → verdict_on lent os ≡ accepted → Accepts lent os
unfolding verdict_on list_verdict
accepts lent os h =
    let p = first_passed _ _ (rest_passed _ _ h) in
    record {
      list = accepted_list otherwise lent.original lent.inserted lent.spans lent.keys os [] h;
      original = all_points_lem lent.original 0 (first_passed (points_from lent.original 0) (points_from lent.inserted 0) p);
      inserted = all_points_lem lent.inserted 0 (rest_passed (points_from lent.original 0) (points_from lent.inserted 0) p);
    }

module _ (lent : Lent) (os : List Operation) (a : Accepts lent os) where
  listed : Listed lent (length lent.original) os 0
  listed = record { shapes = a.list.shapes; tiles = a.list.tiles }

  tiles : Tiled (ops_from 0 os) 0 (length lent.original)
  tiles = tiled lent (length lent.original) os 0 listed

  -- "Keep plus drop is original": all of it is mentioned
  pub diff_original : kept (diff_of lent os) + dropped (diff_of lent os) ≡ length lent.original
  unfolding diff_of
  diff_original =
      omega (arith, items_mentioned (to_diff lent (ops_from 0 os)), diff_mentioned lent (ops_from 0 os) 0 (length lent.original) tiles)

  -- what an edit file can hold
  pub diff_good : Good (diff_of lent os)
  unfolding diff_of
  diff_good =
      let es : List Edit = to_diff lent (ops_from 0 os) in
      let f = diff_fits lent otherwise os [] a.list in
      record {
        few = omega (arith, length_items es, f.items);
        original = omega (arith, diff_original, a.list.original_most);
        text = omega (arith, added_items es, f.text);
        each = good_diff lent (ops_from 0 os) 0 (length lent.original) a.inserted tiles (runs lent (length lent.original) os 0 listed);
      }
