-- The ways through the four calls, and that no call has two answers.
-- Each way by the tests that led there; what the lower crates found is what the definitions ask for. Assumes nothing.
use mathlib.Core.Path.{◌≡◌, refl, sym, ◌∙◌}
use mathlib.Core.Bool.{Bool, true, false}
use mathlib.Core.List.{List}
use Prim.Native.Nat.{ℕ, ◌≤◌, ◌<◌}
use native.Mathlib.Omega.{arith}
use lib.ListN.{length}
use lib.Dec.{ltb}
use borrow.Author.Tests.{lt-ltb, le-ltb, ltb-false}
use Rattle.refusal.specs.declared.Refusal.TheVariants.{CodePoint, Room, Utf8}
use Rattle.room.specs.Placed.{answered}
use Rattle.utf8_read.specs.Reading.{good_end, points}
use Rattle.utf8_read.specs.Window.{starts}
use Rattle.utf8_read.proofs.Steps.{counts, good_most}
use Rattle.numbers.specs.Points.{scalars}
use Rattle.utf8_write.specs.Writing.{encode_all}
use Rattle.numbers.proofs.Scalar.{scalars_most}
use Rattle.utf8.specs.Answers.{read_length_of, read_of, write_length_of, write_of, leaves, Answered}
use Rattle.std.specs.Prelude.{Result, Ok, Err}
use Rattle.refusal.specs.declared.Refusal.{Refusal}

-- the end that was found is the end of the text, and what was counted are its code points
module _ (s : List ℕ) (e : ℕ) (q : e ≡ good_end s) where
  pub length_good : length s ≤ e → (n : ℕ) → n ≡ starts s → Ok n ≡ read_length_of s
  unfolding read_length_of
  length_good h n c =
      let g : good_end s ≡ length s = omega (arith, good_most 0 s) in
      rw (le-ltb (good_end s) (length s) (omega arith), c ∙ sym (counts s g))

  pub length_bad : e < length s → Err (Utf8 e) ≡ read_length_of s
  unfolding read_length_of
  length_bad h = rw (lt-ltb (good_end s) (length s) (omega arith), q)

-- what the measure said of the bytes, and the ways that are left
pub record Counted (s : List ℕ) (n : ℕ) : Type 0 where
  pub good : good_end s ≡ length s
  pub count : n ≡ length (points s)

module _ (s : List ℕ) where
  pub counted : {n : ℕ} → Ok n ≡ read_length_of s → Counted s n
  unfolding read_length_of
  counted {n} h = go (ltb (good_end s) (length s)) refl
    where
      go : (t : Bool) → ltb (good_end s) (length s) ≡ t → Counted s n
      go true e = let z = rw e at h in cc
      go false e = let z = rw e at h in record { good = omega (arith, ltb-false (good_end s) (length s) e, good_most 0 s); count = cc }

  pub read_refused : {r : Refusal} (d : List ℕ) → Err r ≡ read_length_of s → Answered (read_of s (length d)) (Err r) (points s) d d
  unfolding read_length_of read_of leaves
  read_refused {r} d h = go (ltb (good_end s) (length s)) refl
    where
      go : (t : Bool) → ltb (good_end s) (length s) ≡ t → Answered (read_of s (length d)) (Err r) (points s) d d
      go true e = record { answer = rw (h, e); room = rw e }
      go false e = let z = rw e at h in cc

  module _ {n : ℕ} (c : Counted s n) where
    pub read_short : (d : List ℕ) → length d < n → Answered (read_of s (length d)) (Err Room) (points s) d d
    unfolding read_of leaves
    read_short d l =
        let g = le-ltb (good_end s) (length s) (omega (arith, c.good)) in
        let r = lt-ltb (length d) (length (points s)) (omega (arith, c.count)) in
        record { answer = rw (g, r); room = rw (g, r) }

    pub read_good : (d d' : List ℕ) → n ≤ length d → d' ≡ answered (points s) d → Answered (read_of s (length d)) (Ok n) (points s) d d'
    unfolding read_of leaves
    read_good d d' l w =
        let g = le-ltb (good_end s) (length s) (omega (arith, c.good)) in
        let r = le-ltb (length d) (length (points s)) (omega (arith, c.count)) in
        record { answer = rw (g, r, c.count); room = rw (g, r) w }

module _ (s : List ℕ) (e : ℕ) (q : e ≡ scalars s) where
  pub width_good : length s ≤ e → (n : ℕ) → n ≡ length (encode_all s) → Ok n ≡ write_length_of s
  unfolding write_length_of
  width_good h n c = rw (le-ltb (scalars s) (length s) (omega arith), c)

  pub width_bad : e < length s → Err (CodePoint e) ≡ write_length_of s
  unfolding write_length_of
  width_bad h = rw (lt-ltb (scalars s) (length s) (omega arith), q)

-- the same of the numbers
pub record Measured (s : List ℕ) (n : ℕ) : Type 0 where
  pub good : scalars s ≡ length s
  pub width : n ≡ length (encode_all s)

module _ (s : List ℕ) where
  pub measured : {n : ℕ} → Ok n ≡ write_length_of s → Measured s n
  unfolding write_length_of
  measured {n} h = go (ltb (scalars s) (length s)) refl
    where
      go : (t : Bool) → ltb (scalars s) (length s) ≡ t → Measured s n
      go true e = let z = rw e at h in cc
      go false e = let z = rw e at h in record { good = omega (arith, ltb-false (scalars s) (length s) e, scalars_most s); width = cc }

  pub write_refused : {r : Refusal} (d : List ℕ) → Err r ≡ write_length_of s → Answered (write_of s (length d)) (Err r) (encode_all s) d d
  unfolding write_length_of write_of leaves
  write_refused {r} d h = go (ltb (scalars s) (length s)) refl
    where
      go : (t : Bool) → ltb (scalars s) (length s) ≡ t → Answered (write_of s (length d)) (Err r) (encode_all s) d d
      go true e = record { answer = rw (h, e); room = rw e }
      go false e = let z = rw e at h in cc

  module _ {n : ℕ} (c : Measured s n) where
    pub write_short : (d : List ℕ) → length d < n → Answered (write_of s (length d)) (Err Room) (encode_all s) d d
    unfolding write_of leaves
    write_short d l =
        let g = le-ltb (scalars s) (length s) (omega (arith, c.good)) in
        let r = lt-ltb (length d) (length (encode_all s)) (omega (arith, c.width)) in
        record { answer = rw (g, r); room = rw (g, r) }

    pub write_good : (d d' : List ℕ) → n ≤ length d → d' ≡ answered (encode_all s) d → Answered (write_of s (length d)) (Ok n) (encode_all s) d d'
    unfolding write_of leaves
    write_good d d' l w =
        let g = le-ltb (scalars s) (length s) (omega (arith, c.good)) in
        let r = le-ltb (length d) (length (encode_all s)) (omega (arith, c.width)) in
        record { answer = rw (g, r, c.width); room = rw (g, r) w }

-- two outcomes that meet a statement are equal
pub only_answer : {due r r' : (Result ℕ Refusal)} {a d d₁ d₂ : List ℕ} → Answered due r a d d₁ → Answered due r' a d d₂ → (r ≡ r') × (d₁ ≡ d₂)
only_answer p q = (p.answer ∙ sym q.answer, p.room ∙ sym q.room)
