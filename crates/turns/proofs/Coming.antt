-- Shown: what `ahead_of` and `advance` answer, each way through them by itself.
-- How: the records from a place on are one record and those behind it, or none.
use Rattle.std.specs.Prelude.{Some, None}
use Prim.Native.Nat.{ℕ, ◌+◌, ◌/◌, ◌≤◌, ◌<◌}
use mathlib.Core.Path.{◌≡◌, refl, sym}
use mathlib.Core.List.{List, [], ◌∷◌}
use native.Mathlib.Omega.{arith}
use lib.ListN.{length}
use Rattle.records.specs.Operations.{operation_at}
use Rattle.records.proofs.OperationLaws.{from_more, from_none}
use Rattle.merging.specs.declared.Op.{Op}
use Rattle.merging.specs.Operations.{span_of, op_of, ops_from}
use Rattle.numbers.specs.Sizes.{most}
use Rattle.turns.specs.Looking.{list_from, FirstFits, Looks}

never : {A : Type 0} (op : Op) → Some op ≡ None → A
never op e = let z : ◌≡◌ {A = ℕ} 0 1 = cc in absurd (omega arith)

module _ (ops : List ℕ) (behind at : ℕ) where
  list_none : length ops / 6 ≤ behind → list_from ops behind at ≡ []
  unfolding ops_from
  list_none h = rw (from_none ops behind (length ops / 6) h)

  list_more : behind < length ops / 6 → list_from ops behind at
      ≡ op_of at (operation_at ops behind) ∷ list_from ops (behind + 1) (at + span_of (op_of at (operation_at ops behind)))
  unfolding ops_from
  list_more h = rw (from_more ops behind (length ops / 6) h)

  pub first_fits : behind < length ops / 6 → FirstFits at (list_from ops behind at) → at + span_of (op_of at (operation_at ops behind)) ≤ most
  first_fits h f = rw (list_more h) at f

  pub looks_here : (op : Op) (end : ℕ) → behind < length ops / 6 → op ≡ op_of at (operation_at ops behind) → end ≡ at + span_of op
      → Looks ops None behind at (record { next = Some op; behind = behind + 1; at = end })
  looks_here op end h eo ee =
      record {
        view = rw (ee, eo) (sym (list_more h));
        ends = never op;
        from = λ p e. omega arith;
      }

  pub looks_done : length ops / 6 ≤ behind → Looks ops None behind at (record { next = None; behind = behind; at = at })
  looks_done h = record { view = refl; ends = λ _. list_none h; from = λ p e. e }

  pub looks_tail : (op : Op) → Looks ops (Some op) behind at (record { next = Some op; behind = behind; at = at })
  looks_tail op = record { view = refl; ends = never op; from = λ p e. e }
