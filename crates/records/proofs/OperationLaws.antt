-- Operations read from a flat list and put into a room: one more, none, an answer that grows and is read back.
-- By the places of a record's six numbers; the rest is Rooms. Assumes nothing.
use Prim.Native.Nat.{ℕ, zero, suc, ◌+◌, ◌-◌, ◌*◌, ◌/◌, ◌≤◌, ◌<◌}
use mathlib.Core.Path.{◌≡◌, refl, ◌∙◌, ap}
use mathlib.Core.List.{List, [], ◌∷◌, ◌++◌, append_assoc, append-nil}
use native.Mathlib.Omega.{arith}
use lib.ListN.{length, take, drop, length-append, length-drop}
use lib.Seq.{sets-eq, take_at, get_or-append_seam, get_or-append-add}
use Rattle.room.specs.Placed.{answered}
use Rattle.records.specs.declared.Operation.{Operation}
use Rattle.records.specs.Operations.{operation_at, operations_from, operations_of, flat_operations, put_operation}
use Rattle.records.specs.Rooms.{filled}
use Rattle.records.proofs.Rooms.{answered_more}

pub length_flat : (os : List Operation) → length (flat_operations os) ≡ length os * 6
unfolding flat_operations
length_flat [] = refl
length_flat (o ∷ os) = omega (arith, length_flat os)

pub flat_append : (os ps : List Operation) → flat_operations (os ++ ps) ≡ flat_operations os ++ flat_operations ps
unfolding flat_operations
flat_append [] ps = refl
flat_append (o ∷ os) ps =
    ap (λ (r : List ℕ). o.kind ∷ o.order ∷ o.length ∷ o.side ∷ o.first ∷ o.count ∷ r) (flat_append os ps)

pub length_from : (d : List ℕ) (i k : ℕ) → length (operations_from d i k) ≡ k
unfolding operations_from
length_from d i zero = refl
length_from d i (suc k) = ap suc (length_from d (i + 1) k)

pub length_of_lem : (d : List ℕ) → length (operations_of d) ≡ length d / 6
unfolding operations_of
length_of_lem d = length_from d 0 (length d / 6)

-- the operations from i to n: one, and those from i + 1; or none
pub from_more : (d : List ℕ) (i n : ℕ) → i < n → operations_from d i (n - i) ≡ operation_at d i ∷ operations_from d (i + 1) (n - (i + 1))
unfolding operations_from
from_more d i n h = let e : n - i ≡ suc (n - (i + 1)) = omega arith in rw e

pub from_none : (d : List ℕ) (i n : ℕ) → n ≤ i → operations_from d i (n - i) ≡ []
unfolding operations_from
from_none d i n h = let e : n - i ≡ 0 = omega arith in rw e

-- an operation stored where its six numbers go
pub put_eq : (d : List ℕ) (i : ℕ) (o : Operation) → i * 6 + 6 ≤ length d
    → put_operation d i o ≡ filled d (i * 6) (flat_operations (o ∷ [])) (i * 6 + 6)
unfolding filled flat_operations
put_eq d i o h =
    let e1 : i * 6 + 1 ≡ suc (i * 6) = omega arith in
    let e2 : i * 6 + 2 ≡ suc (suc (i * 6)) = omega arith in
    let e3 : i * 6 + 3 ≡ suc (suc (suc (i * 6))) = omega arith in
    let e4 : i * 6 + 4 ≡ suc (suc (suc (suc (i * 6)))) = omega arith in
    let e5 : i * 6 + 5 ≡ suc (suc (suc (suc (suc (i * 6))))) = omega arith in
    rw (e1, e2, e3, e4, e5) (sets-eq (flat_operations (o ∷ [])) d (i * 6) h)

-- an answer grows by the operation that is put where it ends
pub put_answered : (os : List Operation) (o : Operation) (d out : List ℕ) (n : ℕ) → n ≡ length os → out ≡ answered (flat_operations os) d → n * 6 + 6 ≤ length out
    → put_operation out n o ≡ answered (flat_operations (os ++ (o ∷ []))) d
put_answered os o d out n en eo h =
    put_eq out n o h
    ∙ rw (eo, flat_append os (o ∷ []))
    (answered_more (flat_operations os) (flat_operations (o ∷ [])) d (n * 6) (n * 6 + 6) (omega (arith, length_flat os))
    (omega (arith, length_flat os, length_flat (o ∷ []))))

pub length_answered : (os : List Operation) (d : List ℕ) → length os * 6 ≤ length d → length (answered (flat_operations os) d) ≡ length d
length_answered os d h = rw (length-append, length-drop) (omega (arith, length_flat os))

-- an answer read back
at_append : (p r : List ℕ) (o : Operation) (j : ℕ) → length p ≡ j * 6
    → operation_at (p ++ (o.kind ∷ o.order ∷ o.length ∷ o.side ∷ o.first ∷ o.count ∷ r)) j ≡ o
at_append p r o j h =
    let s : List ℕ = o.kind ∷ o.order ∷ o.length ∷ o.side ∷ o.first ∷ o.count ∷ r in
    rw (
      ← h,
      get_or-append_seam p o.kind (o.order ∷ o.length ∷ o.side ∷ o.first ∷ o.count ∷ r) 0,
      get_or-append-add p s 1 0,
      get_or-append-add p s 2 0,
      get_or-append-add p s 3 0,
      get_or-append-add p s 4 0,
      get_or-append-add p s 5 0,
    )

from_append : (p : List ℕ) (os : List Operation) (q : List ℕ) (j : ℕ) → length p ≡ j * 6
    → operations_from (p ++ (flat_operations os ++ q)) j (length os) ≡ os
unfolding operations_from flat_operations
from_append p [] q j h = refl
from_append p (o ∷ os) q j h =
    let t : List ℕ = p ++ flat_operations (o ∷ []) in
    let r : List ℕ = flat_operations os ++ q in
    let lt : length t ≡ (j + 1) * 6 = rw (length-append) (omega arith) in
    let n : operations_from (p ++ (flat_operations (o ∷ []) ++ r)) (j + 1) (length os) ≡ os =
    rw (← append_assoc p (flat_operations (o ∷ [])) r) (from_append t os q (j + 1) lt)
    in
    rw (at_append p r o j h, n)

pub of_answered : (os : List Operation) (d : List ℕ) (k : ℕ) → k ≡ length os * 6 → operations_of (take k (answered (flat_operations os) d)) ≡ os
unfolding operations_of
of_answered os d k h =
    let e : length os * 6 / 6 ≡ length os = omega arith in
    rw (h, take_at (flat_operations os) (drop (length (flat_operations os)) d) (length os * 6) (length_flat os), length_flat os, e)
    (rw (← append-nil (flat_operations os)) (from_append [] os [] 0 refl))
