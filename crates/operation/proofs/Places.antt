-- The place of the overlap, by whether there is one.
-- Each is a case of the definition's test. Assumes nothing.
use Prim.Native.Nat.{ℕ, ◌-◌, ◌≤◌, ◌<◌}
use mathlib.Core.Path.{◌≡◌, sym, ap, ◌∙◌, subst}
use mathlib.Core.List.{List}
use native.Mathlib.Omega.{arith}
use borrow.Author.Tests.{eq-eqb, ne_eqb}
use lib.ListN.{length, drop, length-drop}
use lib.Seq.{slice, take_all}
use borrow.Rule.Slice.PartMut.{mid_of}
use Rattle.overlap.specs.declared.Range.{Range}
use Rattle.merging.specs.Lent.{sum}
use Rattle.merging.specs.Cursors.{Place, overlap_place}
use Rattle.operation.specs.declared.Place.{Place as Spot}
use Rattle.operation.specs.Meets.{Placed, point}
use Rattle.operation.proofs.Scratch.{part_is}

pub place_none : (r : Range) (ls : List ℕ) (m : ℕ) → r.end ≤ r.start → overlap_place r ls m ≡ point m
unfolding overlap_place
place_none r ls m h = rw (eq-eqb (r.end - r.start) 0 (omega arith), overlap_place)

pub place_some :
    (r : Range) (ls : List ℕ) (m : ℕ) → r.start < r.end
    → overlap_place r ls m ≡ record { start = m - sum (drop r.start ls); shared = sum (slice r.start r.end ls) }
unfolding overlap_place
place_some r ls m h = rw (ne_eqb (r.end - r.start) 0 (λ z. omega arith), overlap_place)

-- a place of the code that is one of the definition's
pub placed_as : {r : Spot} {p q : Place} → p ≡ q → r.start ≡ q.start → r.shared ≡ q.shared → Placed r p
placed_as {r} {p} {q} e a b = subst (Placed r) (sym e) (record { start = a; shared = b })

-- the part from a place on is what is left there
pub rest_part : (s : ℕ) (ls : List ℕ) → mid_of s (length ls - s) ls ≡ drop s ls
rest_part s ls = take_all (length ls - s) (drop s ls) (omega (arith, length-drop s ls))

pub found :
    (o : Range) (ls : List ℕ) (m b h : ℕ) → o.start < o.end → o.end ≤ length ls → b ≡ sum (mid_of o.start (length ls - o.start) ls)
    → h ≡ sum (mid_of o.start (o.end - o.start) ls) → (r : Spot) → r.start ≡ m - b → r.shared ≡ h → Placed r (overlap_place o ls m)
found o ls m b h l k eb eh r p q =
    placed_as (place_some o ls m l)
    (p ∙ ap (λ (x : ℕ). m - x) (eb ∙ ap sum (rest_part o.start ls)))
    (q ∙ eh ∙ ap sum (part_is o.start o.end ls (omega arith) (omega arith)))
