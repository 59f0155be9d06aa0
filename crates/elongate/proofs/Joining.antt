-- Joining and cooking by a current operation's numbers is joining and cooking by its tokens; joining keeps the tokens.
-- By the runs behind the current one. Assumes nothing.
use Prim.Native.Nat.{ℕ, suc, ◌+◌, ◌≤◌, ◌<◌}
use mathlib.Core.Path.{◌≡◌, refl, sym, ◌∙◌, ap}
use mathlib.Core.Bool.{Bool, true, false, ◌&&◌, not}
use mathlib.Core.List.{List, [], ◌∷◌, ◌++◌, append_assoc}
use native.Mathlib.Omega.{arith}
use lib.ListN.{length, length-append}
use lib.Dec.{eqb}
use Rattle.raw_lists.specs.declared.Raw.{Raw}
use Rattle.raw_lists.specs.Raws.{Piece, Run, runs_of}
use Rattle.raw_lists.specs.Good.{AllGood}
use Rattle.raw_lists.proofs.Pieces.{length_pieces}
use Rattle.elongate.specs.declared.Current.{Current}
use Rattle.elongate.specs.Elongated.{last_right, joinable, join, joined_from, joined, pieces_length, consumes, cooked_from, cooked, all_tokens}
use Rattle.elongate.specs.Currents.{none, extended, closed, cooked_on}
use Rattle.elongate.proofs.Lengths.{pieces_append}
use Rattle.elongate.proofs.Cooking.{closed_some, cooks_joined, cooks_apart}

-- every run has tokens
unfoldable pub AllSome : List Run → Type 0
AllSome [] = Unit
AllSome (r ∷ rs) = (0 < length r.tokens) × AllSome rs

pub some_runs : (n : ℕ) (spans keys joins : List ℕ) (rs : List Raw) → AllGood n spans keys joins rs → AllSome (runs_of spans keys joins rs)
unfolding AllGood AllSome runs_of
some_runs n spans keys joins [] g = tt
some_runs n spans keys joins (r ∷ rs) g =
    (rw (length_pieces spans keys joins r.first r.count) g.0.some, some_runs n spans keys joins rs g.1)

-- the last token of two runs is the later one's
pub last_append : (ps qs : List Piece) → 0 < length qs → last_right (ps ++ qs) ≡ last_right qs
unfolding last_right
last_append [] qs h = refl
last_append (p ∷ []) [] h = absurd (omega arith)
last_append (p ∷ []) (q ∷ qs) h = refl
last_append (p ∷ p' ∷ ps) qs h = last_append (p' ∷ ps) qs h

module _ (c r : Run) (rs : List Run) where
  pub joins_on : joinable c.kind (last_right c.tokens) r ≡ true → joined_from c (r ∷ rs) ≡ joined_from (join c r) rs
  unfolding joined_from
  joins_on h = rw (h, joined_from)

  pub joins_apart : joinable c.kind (last_right c.tokens) r ≡ false → joined_from c (r ∷ rs) ≡ c ∷ joined_from r rs
  unfolding joined_from
  joins_apart h = rw (h, joined_from)

-- by the test of joining
pub by_test : (b : Bool) (P : Type 0) → (b ≡ true → P) → (b ≡ false → P) → P
by_test true P f g = f refl
by_test false P f g = g refl

-- a run's numbers, as the current operation
abbrev numbers : Run → ℕ → ℕ → Current
numbers c at first =
    record { kind = c.kind; order = at; length = pieces_length c.tokens; first = first; count = length c.tokens; right = last_right c.tokens }

cooks_from : (c : Run) (rs : List Run) (at first : ℕ) → 0 < length c.tokens → AllSome rs → cooked_on (numbers c at first) rs ≡ cooked_from (joined_from c rs) at first
unfolding cooked_from joined_from AllSome cooked_on
cooks_from c [] at first h a = closed_some (numbers c at first) (λ e. omega arith)
cooks_from c (r ∷ rs) at first h a =
    by_test (joinable c.kind (last_right c.tokens) r) (cooked_on (numbers c at first) (r ∷ rs) ≡ cooked_from (joined_from c (r ∷ rs)) at first)
    (λ t.
    let m : 0 < length (c.tokens ++ r.tokens) = rw (length-append) (omega arith) in
    let e : extended (numbers c at first) (pieces_length r.tokens) (length r.tokens) (last_right r.tokens) ≡ numbers (join c r) at first =
    rw (pieces_append c.tokens r.tokens, length-append c.tokens r.tokens, last_append c.tokens r.tokens a.0)
    in
    cooks_joined (numbers c at first) r rs t ∙
    (ap (λ (z : Current). cooked_on z rs) e ∙
    (cooks_from (join c r) rs at first m a.1 ∙ ap (λ (z : List Run). cooked_from z at first) (sym (joins_on c r rs t)))))
    (λ t.
    let k = closed_some (numbers c at first) (λ e. omega arith) in
    let e = cooks_from r rs (at + consumes c.kind (pieces_length c.tokens)) (first + length c.tokens) a.0 a.1 in
    cooks_apart (numbers c at first) r rs t ∙ (rw (k, e, joins_apart c r rs t)))

never_right : (b : Bool) → b && false ≡ false
never_right true = refl
never_right false = refl

pub cooks_all : (rs : List Run) → AllSome rs → cooked_on none rs ≡ cooked (joined rs)
unfolding AllSome cooked_from cooked_on closed
cooks_all [] a = refl
cooks_all (r ∷ rs) a =
    let t : joinable 3 false r ≡ false = never_right (eqb 3 r.kind && not (eqb 3 2)) in
    cooks_apart none r rs t ∙ cooks_from r rs 0 0 a.0 a.1

-- the tokens

pub tokens_joined_from : (c : Run) (rs : List Run) → all_tokens (joined_from c rs) ≡ c.tokens ++ all_tokens rs
unfolding all_tokens joined_from
tokens_joined_from c [] = refl
tokens_joined_from c (r ∷ rs) =
    by_test (joinable c.kind (last_right c.tokens) r) (all_tokens (joined_from c (r ∷ rs)) ≡ c.tokens ++ all_tokens (r ∷ rs))
    (λ t. rw (joins_on c r rs t, tokens_joined_from (join c r) rs) (append_assoc c.tokens r.tokens (all_tokens rs)))
    (λ t. rw (joins_apart c r rs t) (ap (λ (z : List Piece). c.tokens ++ z) (tokens_joined_from r rs)))

pub tokens_joined : (rs : List Run) → all_tokens (joined rs) ≡ all_tokens rs
unfolding all_tokens
tokens_joined [] = refl
tokens_joined (r ∷ rs) = tokens_joined_from r rs

-- how many

joined_most : (c : Run) (rs : List Run) → length (joined_from c rs) ≤ suc (length rs)
unfolding joined_from
joined_most c [] = omega arith
joined_most c (r ∷ rs) =
    by_test (joinable c.kind (last_right c.tokens) r) (length (joined_from c (r ∷ rs)) ≤ suc (suc (length rs)))
    (λ t. rw (joins_on c r rs t) (omega (arith, joined_most (join c r) rs)))
    (λ t. rw (joins_apart c r rs t) (omega (arith, joined_most r rs)))

pub joined_length : (rs : List Run) → length (joined rs) ≤ length rs
joined_length [] = omega arith
joined_length (r ∷ rs) = joined_most r rs

pub cooked_length : (rs : List Run) (at first : ℕ) → length (cooked_from rs at first) ≡ length rs
unfolding cooked_from
cooked_length [] at first = refl
cooked_length (r ∷ rs) at first = ap suc (cooked_length rs (at + consumes r.kind (pieces_length r.tokens)) (first + length r.tokens))
