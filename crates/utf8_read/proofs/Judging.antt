-- The ways through the judge of one sequence and of many, over plain lists.
-- A test that held makes the sequence of its kind; one that failed leaves no kind that the first byte allows. Assumes nothing.
use mathlib.Core.Path.{◌≡◌, refl, sym, ◌∙◌}
use mathlib.Core.Bool.{true, false}
use mathlib.Core.List.{List}
use Prim.Native.Nat.{ℕ, zero, suc, ◌+◌, ◌-◌, ◌≤◌, ◌<◌}
use native.Mathlib.Omega.{arith}
use native.Mathlib.Decide.{dec_lt}
use lib.ListN.{length, get_or, take, drop}
use Rattle.std.specs.List.{All}
use Rattle.utf8_read.proofs.Runs.{part_within}
use Rattle.utf8_read.specs.Grammar.{tail, utf8_2, utf8_3, utf8_4, utf8_char}
use Rattle.utf8_read.specs.Reading.{good_end}
use Rattle.utf8_read.specs.Window.{ones, Ascii, Clean, Stretch, Reached, Walked}
use Rattle.room.proofs.Choices.{never}
use Rattle.utf8_read.proofs.Rules.{in_two, in_three, in_four}
use Rattle.utf8_read.proofs.Sequences.{At, stands, none, found, fits}
use Rattle.utf8_read.proofs.Leads.{lead, says_2, says-3, says-4, says_none}
use Rattle.utf8_read.proofs.Steps.{next_good, stop_good, end_good}
use Rattle.utf8_read.proofs.Walk.{clean_next, clean_start, clean_here, walked, local_join, ascii_local}

module _ (s : List ℕ) (at : ℕ) (h : at < length s) where
  pub long_1 : ones (get_or s at 0) ≡ 0 → 1 ≡ utf8_char (drop at s)
  long_1 o = sym (stands {s = s} {at = at} (At.one (lead (get_or s at 0) 0 o) (omega arith)))

  pub short_2 : ones (get_or s at 0) ≡ 2 → length s - at < 2 → 0 ≡ utf8_char (drop at s)
  short_2 o l = sym (none s at (omega arith) (λ n a. let w = says_2 a (lead (get_or s at 0) 2 o) in omega arith))

  pub long_2 : at + 2 ≤ length s → utf8_2 (get_or s at 0) (get_or s (at + 1) 0) ≡ true → 2 ≡ utf8_char (drop at s)
  long_2 l t = sym (stands {s = s} {at = at} (At.two (in_two _ _ t) l))

  pub bad_2 : ones (get_or s at 0) ≡ 2 → utf8_2 (get_or s at 0) (get_or s (at + 1) 0) ≡ false → 0 ≡ utf8_char (drop at s)
  bad_2 o t = sym (none s at (omega arith) (λ n a. never (sym (says_2 a (lead (get_or s at 0) 2 o)).test ∙ t)))

  pub short_3 : ones (get_or s at 0) ≡ 3 → length s - at < 3 → 0 ≡ utf8_char (drop at s)
  short_3 o l = sym (none s at (omega arith) (λ n a. let w = says-3 a (lead (get_or s at 0) 3 o) in omega arith))

  pub long_3 : at + 3 ≤ length s → utf8_3 (get_or s at 0) (get_or s (at + 1) 0) (get_or s (at + 2) 0) ≡ true → 3 ≡ utf8_char (drop at s)
  long_3 l t = sym (stands {s = s} {at = at} (At.three (in_three _ _ _ t) l))

  pub bad_3 : ones (get_or s at 0) ≡ 3 → utf8_3 (get_or s at 0) (get_or s (at + 1) 0) (get_or s (at + 2) 0) ≡ false → 0 ≡ utf8_char (drop at s)
  bad_3 o t = sym (none s at (omega arith) (λ n a. never (sym (says-3 a (lead (get_or s at 0) 3 o)).test ∙ t)))

  pub short_4 : ones (get_or s at 0) ≡ 4 → length s - at < 4 → 0 ≡ utf8_char (drop at s)
  short_4 o l = sym (none s at (omega arith) (λ n a. let w = says-4 a (lead (get_or s at 0) 4 o) in omega arith))

  pub long_4 : at + 4 ≤ length s → utf8_4 (get_or s at 0) (get_or s (at + 1) 0) (get_or s (at + 2) 0) (get_or s (at + 3) 0) ≡ true → 4 ≡ utf8_char (drop at s)
  long_4 l t = sym (stands {s = s} {at = at} (At.four (in_four _ _ _ _ t) l))

  pub bad_4 : ones (get_or s at 0) ≡ 4 → utf8_4 (get_or s at 0) (get_or s (at + 1) 0) (get_or s (at + 2) 0) (get_or s (at + 3) 0) ≡ false → 0 ≡ utf8_char (drop at s)
  bad_4 o t = sym (none s at (omega arith) (λ n a. never (sym (says-4 a (lead (get_or s at 0) 4 o)).test ∙ t)))

  pub no_first : (n : ℕ) → n ≡ ones (get_or s at 0) → (n ≡ 0 → ⊥) → (n ≡ 2 → ⊥) → (n ≡ 3 → ⊥) → (n ≡ 4 → ⊥) → 0 ≡ utf8_char (drop at s)
  no_first n o z t r f = sym (none s at (omega arith) (λ l a. says_none a n (lead (get_or s at 0) n (sym o)) z t r f))

-- a part that is ASCII, and two parts joined
part_ascii : (s : List ℕ) (a n : ℕ) → All (λ x. x < 0x80) (take n (drop a s)) → a + n ≤ length s → Ascii s a (a + n)
part_ascii s a n f h k l m = part_within (λ (x : ℕ). x < 0x80) s a n f h k 0 l m

pub ascii_join : (s : List ℕ) (a b c d : ℕ) → c ≤ b → Ascii s a b → Ascii s c d → Ascii s a d
ascii_join s a b c d m f g k l h = elim (dec_lt k b) [ yes n ↦ f k l n | no n ↦ g k (omega arith) h ]

abbrev pub Part : List ℕ → ℕ → ℕ → Type 0
Part s a e = All (λ x. x < 0x80) (take (e - a) (drop a s))

pub part_to : (s : List ℕ) (a e : ℕ) → a ≤ e → e ≤ length s → Part s a e → Ascii s a e
part_to s a e l h f k i m = part_ascii s a (e - a) f (omega arith) k i (omega arith)

pub here : (s : List ℕ) (at : ℕ) → at ≤ length s → Clean s at → Reached s at at
here s at m c = record { least = omega arith; most = m; clean = c; good = refl }

-- going back from the end of a stretch
module _ {s : List ℕ} {at e : ℕ} (t : Stretch s at e) where
  pub came : (p : ℕ) → at ≤ p → p < e → tail (get_or s p 0) ≡ false → Reached s at p
  came p l h y =
      let m = t.most in
      let o = t.third in
      let c = clean_here s at p e (omega arith) l h t.fit y in
      record {
        least = l;
        most = omega arith;
        clean = c;
        good = walked s at p o l (omega arith) (λ j a b. t.fit j a (omega arith)) t.clean c;
      }

-- a stretch goes on by ASCII
pub stretch-calm :
    {s : List ℕ} {at e : ℕ} (f : ℕ) → Stretch s at e → Ascii s (e - 3) (e - 3 + 35) → e + 32 ≤ f → f ≤ length s → Ascii s (e + 32) f → Stretch s at f
stretch-calm {s} {at} {e} f t w n k p =
    let l = t.least in
    let o = t.third in
    let c = ascii_join s (e - 3) (e - 3 + 35) (e + 32) f (omega arith) w p in
    let loc = ascii_local s (e - 3) (f - 3) (λ i a b. c i a (omega arith)) in
    record {
      third = o;
      least = omega arith;
      most = k;
      clean = t.clean;
      fit = local_join s at e f t.fit (λ j a b. loc j (omega arith) (omega arith));
    }

pub on_from : {s : List ℕ} {a b c : ℕ} → Reached s a b → Reached s b c → Reached s a c
on_from r q = record { least = omega (arith, r.least, q.least); most = q.most; clean = q.clean; good = r.good ∙ q.good }

-- one sequence more
pub by_one : {s : List ℕ} {a at n : ℕ} → Reached s a at → n ≡ utf8_char (drop at s) → 0 < n → Reached s a (at + n)
by_one {n = zero} r e z = absurd (omega arith)
by_one {s = s} {at = at} {n = suc k} r e z =
    let q = found s at k r.most (sym e) in
    record { least = omega (arith, r.least); most = (fits q).ends; clean = clean_next q r.clean; good = r.good ∙ next_good q }

pub by_plain : {s : List ℕ} {a at : ℕ} → Reached s a at → at < length s → get_or s at 0 < 0x80 → Reached s a (at + 1)
by_plain {s} {a} {at} r l h = by_one r (sym (stands {s = s} {at = at} (At.one h (omega arith)))) (omega arith)

pub begun : (s : List ℕ) → Reached s 0 0
begun s = here s 0 (omega arith) (clean_start s)

-- the good sequences of the whole end at a bad one, or at its end
pub at_bad : {s : List ℕ} {p : ℕ} → Reached s 0 p → utf8_char (drop p s) ≡ 0 → p ≡ good_end s
at_bad {s} {p} r z = omega (arith, r.good, stop_good (drop p s) z)

pub at_last : {s : List ℕ} {from p : ℕ} → Reached s 0 from → Walked s from (length s) p → p ≡ good_end s
at_last {s} {from} {p} r w =
    let q = on_from r w.reached in
    elim (dec_lt p (length s)) [ yes l ↦ at_bad q (w.stopped l) | no l ↦ omega (arith, q.good, end_good s p (omega arith)) ]
