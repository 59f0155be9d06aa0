-- Shown: what `emit` leaves, for an empty result and for any other.
-- How: the room grows by one record, which is the definition's.
use Prim.Native.Nat.{ℕ, ◌+◌, ◌*◌, ◌≤◌}
use mathlib.Core.Path.{◌≡◌, refl, sym, ◌∙◌, ap}
use mathlib.Core.Bool.{true, false}
use mathlib.Core.List.{List, [], ◌∷◌, ◌++◌, append-nil}
use native.Mathlib.Omega.{arith}
use lib.ListN.{length}
use Rattle.records.specs.declared.Operation.{Operation}
use Rattle.records.specs.Operations.{put_operation}
use Rattle.records.proofs.OperationLaws.{put_answered}
use Rattle.merging.specs.declared.Op.{Op}
use Rattle.merging.specs.declared.Op.TheVariants.{Delete, Insert, Retain}
use Rattle.merging.specs.Lent.{Lent}
use Rattle.merging.specs.Operations.{Out, length_of, empty_op, record_of, records_of}
use Rattle.merging.specs.Turn.{anchored, emitted}
use Rattle.merging.proofs.Whole.{emit_none, emit_one}
use Rattle.turns.specs.Emitting.{record_by, Emits}

pub emit_fits : (side at : ℕ) (a : Op) (place n : ℕ) → empty_op a ≡ false → (place + length (emitted side at a)) * 6 ≤ n → place * 6 + 6 ≤ n
emit_fits side at a place n e h = omega (arith, ap length (emit_one side at a e))

records_append : (lent : Lent) (xs ys : List Out) → records_of lent (xs ++ ys) ≡ records_of lent xs ++ records_of lent ys
unfolding records_of
records_append lent [] ys = refl
records_append lent (x ∷ xs) ys = ap (λ (r : List Operation). record_of lent x.side x.op ∷ r) (records_append lent xs ys)

length_records : (lent : Lent) (xs : List Out) → length (records_of lent xs) ≡ length xs
unfolding records_of
length_records lent [] = refl
length_records lent (x ∷ xs) = omega (arith, length_records lent xs)

-- the code's record is the definition's
record_is : (lent : Lent) (side at text : ℕ) (a : Op) → text ≡ length_of lent a → record_by side at text a ≡ record_of lent side (anchored at a)
record_is lent side at text (Delete o l) e = refl
record_is lent side at text (Insert o f n) e = rw e
record_is lent side at text (Retain o l) e = refl

module _ (d : List ℕ) (place side at : ℕ) (a : Op) (text : ℕ) where
  pub emits_none : empty_op a ≡ true → Emits d d place side at a text place
  emits_none e =
      record {
        count = omega (arith, ap length (emit_none side at a e));
        grows = λ lent outs d₀ et ep ed. rw (emit_none side at a e, append-nil outs) ed;
      }

  pub emits_one : (d' : List ℕ) (o : Operation) → empty_op a ≡ false → (place + length (emitted side at a)) * 6 ≤ length d
      → o ≡ record_by side at text a → d' ≡ put_operation d place o → Emits d d' place side at a text (place + 1)
  unfolding records_of
  emits_one d' o e h eo ed' =
      record {
        count = omega (arith, ap length (emit_one side at a e));
        grows = λ lent outs d₀ et ep ed.
            let x : Out = record { side = side; op = anchored at a } in
            let eq : o ≡ record_of lent side (anchored at a) = eo ∙ record_is lent side at text a et in
            ed'
            ∙ (put_answered (records_of lent outs) o d₀ d place (ep ∙ sym (length_records lent outs)) ed (emit_fits side at a place (length d) e h)
            ∙ rw (emit_one side at a e, eq, records_append lent outs (x ∷ [])));
      }
