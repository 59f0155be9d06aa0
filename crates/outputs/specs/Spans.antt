-- The spans of a history, as they stand in its two rooms. Assumes nothing.
use Rattle.std.specs.Prelude.{ℕ, zero, suc, ◌+◌, ◌*◌, List, [], ◌∷◌, get_or, take, drop}
use Rattle.merging.specs.Outputs.{Span}

-- "one span for each operation": the one at place i, four numbers of the room h, its text a range of the room t
abbrev pub span_at : List ℕ → List ℕ → ℕ → Span
span_at h t i =
    record { kind = get_or h (i * 4) 0; side = get_or h (i * 4 + 1) 0; text = take (get_or h (i * 4 + 3) 0) (drop (get_or h (i * 4 + 2) 0) t) }

-- "one span for each operation, in order": the k from place i on
unfoldable pub spans_from : List ℕ → List ℕ → ℕ → ℕ → List Span
spans_from h t i zero = []
spans_from h t i (suc k) = span_at h t i ∷ spans_from h t (i + 1) k
