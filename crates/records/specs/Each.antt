-- The records of a view from a place on to an end, one step over them, and all of them in a list. Assumes nothing.
use Rattle.std.specs.Prelude.{◌≡◌, ℕ, zero, suc, ◌+◌, ◌<◌, ◌≤◌, List, [], ◌∷◌}
use Rattle.records.specs.declared.each.Each.{Each}

-- the records of a view at the places from `first` on and before `end`
abbrev pub places : {R : Type 0} → R → ℕ → ℕ → Each R
places r first end = record { records = r; next = first; end = end }

module _ {R A : Type 0} (record_at : R → ℕ → A) where
  -- a record that came: the one at the place of before, and what it is that goes on behind it
  pub record Comes (s t : Each R) (x : A) : Type 0 where
    pub more : s.next < s.end
    pub is : x ≡ record_at s.records s.next
    pub on : t.next ≡ s.next + 1
    pub over : t.records ≡ s.records
    pub stops : t.end ≡ s.end

  -- none came: the end was reached
  pub record Ends (s t : Each R) : Type 0 where
    pub reached : s.end ≤ s.next
    pub same : t ≡ s

-- what stands at the n places from i on
unfoldable pub listed_from : {A : Type 0} → (ℕ → A) → ℕ → ℕ → List A
listed_from g i zero = []
listed_from g i (suc n) = g i ∷ listed_from g (i + 1) n

-- what stands at all n places
abbrev pub listed : {A : Type 0} → (ℕ → A) → ℕ → List A
listed g n = listed_from g 0 n
