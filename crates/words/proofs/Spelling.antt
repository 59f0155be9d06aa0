-- Shown: a run of tokens is spelled into a room, with what follows on in the text held back: the loop's invariant, and its four ways.
-- How: what is put, what is held back, and what the tokens that are left will put, is the whole spelling.
use Prim.Native.Nat.{ℕ, zero, suc, ◌+◌, ◌-◌, ◌≤◌, ◌<◌, zero-le}
use mathlib.Core.Path.{◌≡◌, refl, sym, ap, ◌∙◌}
use mathlib.Core.List.{List, [], ◌∷◌, ◌++◌, append_assoc, append-nil}
use native.Mathlib.Omega.{arith}
use lib.ListN.{length, take, drop, length-append}
use lib.Seq.{take-add, drop-drop}
use Rattle.room.specs.Placed.{placed, Put}
use Rattle.room.proofs.Placing.{placed_length, placed_more}
use Rattle.records.specs.declared.Token.{Token}
use Rattle.records.specs.Tokens.{token_at, tokens_from, spelled, spelling}
use Rattle.records.proofs.TokenLaws.{from_more, from_none, length_spell}
use Rattle.shapes.specs.Accepted.{AllIn}
use Rattle.words.specs.Words.{Lends, first_start}

-- where the first token begins

pub start_none : (spans keys : List ℕ) (first count : ℕ) → count ≡ 0 → first_start (tokens_from spans keys first count) ≡ 0
unfolding tokens_from first_start
start_none spans keys first count e = rw e

pub start_some : (spans keys : List ℕ) (first count : ℕ) → (count ≡ 0 → ⊥)
    → first_start (tokens_from spans keys first count) ≡ (token_at spans keys first).start
unfolding tokens_from first_start
start_some spans keys first zero h = absurd (h refl)
start_some spans keys first (suc k) h = refl

start_inside : (n : ℕ) (ts : List Token) → AllIn n ts → first_start ts ≤ n
unfolding AllIn first_start
start_inside n [] h = zero-le
start_inside n (t ∷ ts) h = omega (arith, h.1.0)

-- a range and the one behind it are one range
ranges : (text : List ℕ) (from held n : ℕ) → take (held + n) (drop from text) ≡ take held (drop from text) ++ take n (drop (from + held) text)
ranges text from held n = take-add held n (drop from text) ∙ ap (λ (r : List ℕ). take held (drop from text) ++ take n r) (drop-drop held from text)

module _ (text spans keys : List ℕ) (first count : ℕ) (d : List ℕ) (at : ℕ) where
  -- what the tokens from i on spell
  abbrev rest : ℕ → List ℕ
  rest i = spelling text spans keys i (first + count - i)

  -- the range that is held back
  abbrev range : ℕ → ℕ → List ℕ
  range from held = take held (drop from text)

  pub record Spelling (o : List ℕ) (i to from held : ℕ) : Type 0 where
    pub most : i ≤ first + count
    pub tokens : AllIn (length text) (tokens_from spans keys i (first + count - i))
    pub inside : from + held ≤ length text
    pub same : length o ≡ length d
    pub ends : to + (held + length (rest i)) ≡ at + length (spelling text spans keys first count)
    pub stands : placed o to (range from held ++ rest i) ≡ placed d at (spelling text spans keys first count)

  pub begins : Lends text spans keys first count d at → (f : ℕ) → f ≡ first_start (tokens_from spans keys first count) → Spelling d first at f 0
  begins h f g =
      let e : first + count - first ≡ count = omega arith in
      record {
        most = omega arith;
        tokens = rw e h.tokens;
        inside = omega (arith, start_inside (length text) (tokens_from spans keys first count) h.tokens);
        same = refl;
        ends = rw e (omega arith);
        stands = rw e;
      }

  module _ (h : Lends text spans keys first count d at) {o : List ℕ} {i to from held : ℕ} (s : Spelling o i to from held) where
    long : length (range from held) ≡ held
    long = length_spell text (record { start = from; length = held; key = 0 }) s.inside

    -- the range that is held back can be put
    pub asks : (from + held ≤ length text) × (to + held ≤ length o)
    asks = (s.inside, omega (arith, s.ends, s.same, h.place))

    module _ {o' : List ℕ} {r : ℕ} (p : Put (range from held) o to o' r) where
      kept : length o' ≡ length d
      kept = ap length p.stands ∙ placed_length o to (range from held) (omega (arith, long, asks.1)) ∙ s.same

      put_more : placed o' r (rest i) ≡ placed d at (spelling text spans keys first count)
      put_more = rw (p.stands, p.next) (placed_more o to (range from held) (rest i) (omega (arith, asks.1)) ∙ s.stands)

      pub finishes : first + count ≤ i → Put (spelling text spans keys first count) d at o' r
      unfolding spelled
      finishes l =
          let n : rest i ≡ [] = ap (spelled text) (from_none spans keys i (first + count) l) in
          record {
            next = omega (arith, p.next, long, s.ends, ap length n);
            stands = p.stands ∙ ap (placed o to) (sym (append-nil (range from held)) ∙ ap (λ (r : List ℕ). range from held ++ r) (sym n)) ∙ s.stands;
          }

    module _ (l : i < first + count) (t : Token) (et : t ≡ token_at spans keys i) where
      more : tokens_from spans keys i (first + count - i) ≡ t ∷ tokens_from spans keys (i + 1) (first + count - (i + 1))
      more = rw et (from_more spans keys i (first + count) l)

      good : (0 < t.length) × ((t.start + t.length ≤ length text) × AllIn (length text) (tokens_from spans keys (i + 1) (first + count - (i + 1))))
      unfolding AllIn
      good = rw more at s.tokens

      -- the token's range
      words : rest i ≡ range t.start t.length ++ rest (i + 1)
      unfolding spelled
      words = ap (spelled text) more

      size : length (rest i) ≡ t.length + length (rest (i + 1))
      size = omega (arith, simp length-append at (ap length words), length_spell text t good.1.0)

      pub joins : t.start ≡ from + held → Spelling o (i + 1) to from (held + t.length)
      joins e =
          let w : range from held ++ rest i ≡ range from (held + t.length) ++ rest (i + 1)
          = rw (words, e, ranges text from held t.length) (sym (append_assoc (range from held) (range (from + held) t.length) (rest (i + 1)))) in
          record {
            most = omega arith;
            tokens = good.1.1;
            inside = omega (arith, good.1.0);
            same = s.same;
            ends = omega (arith, s.ends, size);
            stands = ap (placed o to) (sym w) ∙ s.stands;
          }

      pub goes_on : {o' : List ℕ} {r : ℕ} → Put (range from held) o to o' r → Spelling o' (i + 1) r t.start t.length
      goes_on {o'} {r} p =
          record {
            most = omega arith;
            tokens = good.1.1;
            inside = omega (arith, good.1.0);
            same = kept p;
            ends = omega (arith, p.next, long, s.ends, size);
            stands = ap (placed o' r) (sym words) ∙ put_more p;
          }
