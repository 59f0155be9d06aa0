-- A verdict with a value for what is accepted: how it is made, and what it says.
-- By the verdict. Assumes nothing.
use Prim.Native.Nat.{ℕ}
use mathlib.Core.Path.{◌≡◌, refl}
use Rattle.checks.specs.declared.Lengths.{Lengths}
use Rattle.checks.specs.declared.Claims.{Claims}
use Rattle.refusal.specs.declared.Refusal.{Refusal}
use Rattle.std.specs.Prelude.{Result, Ok, Err}
use Rattle.verdict.specs.Verdicts.{and_then, Verdict, accepted}

module _ (v : Verdict) (n t x y : ℕ) (e : v ≡ accepted) (f : x ≡ n) (g : y ≡ t) where
  pub lengths_told : ◌≡◌ {A = Result Lengths Refusal} (Ok (record { inserted = x; text = y })) (and_then v (Ok (record { inserted = n; text = t })))
  lengths_told = rw (e, f, g)

  pub claims_told : ◌≡◌ {A = Result Claims Refusal} (Ok (record { left = x; right = y })) (and_then v (Ok (record { left = n; right = t })))
  claims_told = rw (e, f, g)

pub says_no : {A : Type 0} (v : Verdict) (x : A) (r : Refusal) → and_then v (Ok x) ≡ Err r → v ≡ Err r
says_no (Ok u) x r h = cc
says_no (Err q) x r h = cc

pub says_yes : {A : Type 0} (v : Verdict) (x y : A) → and_then v (Ok x) ≡ Ok y → v ≡ accepted
says_yes (Ok u) x y h = refl
says_yes (Err q) x y h = cc

pub says_what : {A : Type 0} (v : Verdict) (x y : A) → and_then v (Ok x) ≡ Ok y → x ≡ y
says_what (Ok u) x y h = cc
says_what (Err q) x y h = cc
