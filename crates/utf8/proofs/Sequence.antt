-- A code point and its sequence: the encoding is a good sequence that decodes to it, and the only one.
-- By the four rows: quotients and remainders of a number that is made of parts. Assumes nothing.
use mathlib.Core.Path.{◌≡◌, refl, sym, ap, ◌∙◌}
use mathlib.Core.Bool.{true}
use mathlib.Core.List.{List, [], ◌∷◌, ◌++◌}
use Prim.Native.Nat.{ℕ, suc, ◌+◌, ◌*◌, ◌-◌, ◌/◌, ◌%◌, ◌≤◌, ◌<◌}
use native.Mathlib.Omega.{arith}
use native.Mathlib.Decide.{dec_lt}
use lib.ListN.{length, take, drop}
use lib.Seq.{take-length}
use Rattle.utf8_read.specs.Grammar.{utf8_char}
use Rattle.numbers.specs.Points.{is_point}
use Rattle.numbers.proofs.Points.{point_low, point_high, point_most, point_past}
use Rattle.utf8_read.specs.Table.{six, more, encode, decode}
use Rattle.utf8_read.proofs.Rules.{Within, Two, Three, Four}
use Rattle.utf8_read.proofs.Sequences.{At, found, front_1, front_2, front_3, front_4, value_1, value_2, value_3, value_4}
use Rattle.utf8_write.proofs.Encodes.{row_1, row_2, row_3, row_4}

record Back (q : List ℕ) (x : ℕ) : Type 0 where
  same : q ≡ encode x
  whole : is_point x ≡ true

two_cells : (a b a' b' : ℕ) → a ≡ a' → b ≡ b' → (a ∷ b ∷ []) ≡ (a' ∷ b' ∷ [])
two_cells a b a' b' e f = rw (e, f)

three_cells : (a b c a' b' c' : ℕ) → a ≡ a' → b ≡ b' → c ≡ c' → (a ∷ b ∷ c ∷ []) ≡ (a' ∷ b' ∷ c' ∷ [])
three_cells a b c a' b' c' e f g = rw (e, f, g)

four_cells : (a b c d a' b' c' d' : ℕ) → a ≡ a' → b ≡ b' → c ≡ c' → d ≡ d' → (a ∷ b ∷ c ∷ d ∷ []) ≡ (a' ∷ b' ∷ c' ∷ d' ∷ [])
four_cells a b c d a' b' c' d' e f g h = rw (e, f, g, h)

back_1 : (a : ℕ) → a < 0x80 → Back (a ∷ []) a
back_1 a h = record { same = sym (row_1 a h); whole = point_low a (omega arith) }

back_2 : (a b : ℕ) → Two a b → Back (a ∷ b ∷ []) (more (a % 32) b)
back_2 a b t =
    let x : ℕ = more (a % 32) b in
    let al = t.first.low in
    let ah = t.first.high in
    let bl = t.second.low in
    let bh = t.second.high in
    let p : a % 32 ≡ a - 192 = omega arith in
    let r : b % 64 ≡ b - 128 = omega arith in
    let w : x ≡ (a - 192) * 64 + (b - 128) = omega arith in
    record {
      same = two_cells a b (0xc0 + x / 64) (six x) (omega arith) (omega arith) ∙ sym (row_2 x (omega arith) (omega arith));
      whole = point_low x (omega arith);
    }

back_3 : (a b c : ℕ) → Three a b c → Back (a ∷ b ∷ c ∷ []) (more (more (a % 16) b) c)
back_3 a b c t =
    let x : ℕ = more (more (a % 16) b) c in
    let ft = t.first in
    let st = t.second in
    let tt' = t.third in
    let p : a % 16 ≡ a - 224 = omega arith in
    let r : b % 64 ≡ b - 128 = omega arith in
    let v : c % 64 ≡ c - 128 = omega arith in
    let w : x ≡ (a - 224) * 4096 + (b - 128) * 64 + (c - 128) = omega arith in
    let low : 0x800 ≤ x = elim (dec_lt a 0xe1) [ yes l ↦ omega (arith, t.shortest (omega arith)) | no l ↦ omega arith ] in
    let y : x / 64 ≡ (a - 224) * 64 + (b - 128) = omega arith in
    let z : x / 4096 ≡ a - 224 = omega arith in
    let u : x / 64 % 64 ≡ b - 128 = omega arith in
    let o : x % 64 ≡ c - 128 = omega arith in
    record {
      same =
          three_cells a b c (0xe0 + x / 4096) (six (x / 64)) (six x) (omega arith) (omega arith) (omega arith)
          ∙ sym (row_3 x low (omega arith));
      whole = elim (dec_lt a 0xed) [
        | yes l ↦ point_low x (omega arith)
        | no l ↦ elim (dec_lt a 0xee) [ yes k ↦ point_low x (omega (arith, t.plain (omega arith))) | no k ↦ point_high x (omega arith) (omega arith) ]
      ];
    }

-- six bits taken off, and off again
six_off : (h l x : ℕ) → l < 64 → x ≡ h * 64 + l → (x / 64 ≡ h) × (x % 64 ≡ l)
six_off h l x m e = (omega arith, omega arith)

twice : (x : ℕ) → x / 4096 ≡ x / 64 / 64
twice x = omega arith

thrice : (x : ℕ) → x / 262144 ≡ x / 64 / 64 / 64
thrice x = omega arith

record Parts (x a b c d : ℕ) : Type 0 where
  first : x / 262144 ≡ a
  second : x / 4096 % 64 ≡ b
  third : x / 64 % 64 ≡ c
  fourth : x % 64 ≡ d

parts_of : (x a b c d : ℕ) → b < 64 → c < 64 → d < 64 → x ≡ ((a * 64 + b) * 64 + c) * 64 + d → Parts x a b c d
parts_of x a b c d hb hc hd e =
    let s₁ = six_off ((a * 64 + b) * 64 + c) d x hd e in
    let s₂ = six_off (a * 64 + b) c (x / 64) hc s₁.0 in
    let s₃ = six_off a b (x / 64 / 64) hb s₂.0 in
    record { first = thrice x ∙ s₃.0; second = ap (λ (n : ℕ). n % 64) (twice x) ∙ s₃.1; third = s₂.1; fourth = s₁.1 }

first_4 : (a q : ℕ) → Within 0xf0 0xf4 a → q ≡ a % 8 → a ≡ 0xf0 + q
first_4 a q h e = omega arith

tail_4 : (b q : ℕ) → Within 0x80 0xbf b → q ≡ b % 64 → b ≡ 0x80 + q
tail_4 b q h e = omega arith

-- the least and the greatest number of four bytes
least_4 : (a b c d : ℕ) → Within 0xf0 0xf4 a → Within 0x80 0xbf b → 0x90 ≤ b → 0x10000 ≤ more (more (more (a % 8) b) c) d
least_4 a b c d ha hb l = let p : 16 ≤ b % 64 = omega arith in omega arith

least_5 : (a b c d : ℕ) → Within 0xf0 0xf4 a → 0xf1 ≤ a → 0x10000 ≤ more (more (more (a % 8) b) c) d
least_5 a b c d ha l = let p : 1 ≤ a % 8 = omega arith in omega arith

most_3 : (a b c d : ℕ) → Within 0xf0 0xf4 a → a < 0xf4 → more (more (more (a % 8) b) c) d ≤ 0x10ffff
most_3 a b c d ha l =
    let p : a % 8 ≤ 3 = omega arith in
    let q : b % 64 ≤ 63 = omega arith in
    let r : c % 64 ≤ 63 = omega arith in
    let s : d % 64 ≤ 63 = omega arith in
    omega arith

most_4 : (a b c d : ℕ) → Within 0xf0 0xf4 a → Within 0x80 0xbf b → b ≤ 0x8f → more (more (more (a % 8) b) c) d ≤ 0x10ffff
most_4 a b c d ha hb l =
    let p : a % 8 ≤ 4 = omega arith in
    let q : b % 64 ≤ 15 = omega arith in
    let r : c % 64 ≤ 63 = omega arith in
    let s : d % 64 ≤ 63 = omega arith in
    omega arith

back_4 : (a b c d : ℕ) → Four a b c d → Back (a ∷ b ∷ c ∷ d ∷ []) (more (more (more (a % 8) b) c) d)
back_4 a b c d t =
    let x : ℕ = more (more (more (a % 8) b) c) d in
    let m = parts_of x (a % 8) (b % 64) (c % 64) (d % 64) (omega arith) (omega arith) (omega arith) refl in
    let fa = t.first in
    let fb = t.second in
    let fc = t.third in
    let fd = t.fourth in
    let low : 0x10000 ≤ x = elim (dec_lt a 0xf1) [ yes l ↦ least_4 a b c d fa fb (t.shortest (omega arith)) | no l ↦ least_5 a b c d fa (omega arith) ] in
    let high : x ≤ 0x10ffff = elim (dec_lt a 0xf4) [ yes l ↦ most_3 a b c d fa l | no l ↦ most_4 a b c d fa fb (t.least (omega arith)) ] in
    record {
      same =
          four_cells a b c d (0xf0 + x / 262144) (six (x / 4096)) (six (x / 64)) (six x) (first_4 a _ fa m.first) (tail_4 b _ fb m.second)
          (tail_4 c _ fc m.third) (tail_4 d _ fd m.fourth)
          ∙ sym (row_4 x low);
      whole = point_high x (omega (arith, low)) high;
    }

-- the sequence at a place is the encoding of its number, which is a code point
at_back : {s : List ℕ} {at l : ℕ} → At s at l → Back (take l (drop at s)) (decode (take l (drop at s)))
at_back {s} {at} (At.one a m) = rw (value_1 s at m, front_1 s at m) (back_1 _ a)
at_back {s} {at} (At.two a m) = rw (value_2 s at m, front_2 s at m) (back_2 _ _ a)
at_back {s} {at} (At.three a m) = rw (value_3 s at m, front_3 s at m) (back_3 _ _ _ a)
at_back {s} {at} (At.four a m) = rw (value_4 s at m, front_4 s at m) (back_4 _ _ _ _ a)

pub encoded_at : {s : List ℕ} {at l : ℕ} → At s at l → take l (drop at s) ≡ encode (decode (take l (drop at s)))
encoded_at a = (at_back a).same

pub scalar_at : {s : List ℕ} {at l : ℕ} → At s at l → is_point (decode (take l (drop at s))) ≡ true
scalar_at a = (at_back a).whole

-- the rows' first bytes and tails
tail_of : (y : ℕ) → Within 0x80 0xbf (six y)
tail_of y = omega arith

shape_2 : (x : ℕ) → 0x80 ≤ x → x < 0x800 → Two (0xc0 + x / 64) (six x)
shape_2 x g h = record { first = omega arith; second = tail_of x }

shape_3 : (x : ℕ) → 0x800 ≤ x → x < 0x10000 → is_point x ≡ true → Three (0xe0 + x / 4096) (six (x / 64)) (six x)
shape_3 x g h e = record {
  first = omega arith;
  second = tail_of (x / 64);
  third = tail_of x;
  shortest = λ z. omega arith;
  plain = λ z. elim (dec_lt x 0xd800) [ yes l ↦ omega arith | no l ↦ omega (arith, point_past x e (omega arith)) ];
}

shape_4 : (x : ℕ) → 0x10000 ≤ x → x < 0x110000 → Four (0xf0 + x / 262144) (six (x / 4096)) (six (x / 64)) (six x)
shape_4 x g h = record {
  first = omega arith;
  second = tail_of (x / 4096);
  third = tail_of (x / 64);
  fourth = tail_of x;
  shortest = λ z. omega arith;
  least = λ z. omega arith;
}

-- the encoding of a code point stands at the front of whatever it is put before
pub stands_first : (x : ℕ) (t : List ℕ) → is_point x ≡ true → At (encode x ++ t) 0 (length (encode x))
stands_first x t e = elim (dec_lt x 0x80) [
  | yes h ↦ rw (row_1 x h) (At.one h (omega arith))
  | no a ↦ elim (dec_lt x 0x800) [
    | yes h ↦ (let g : 0x80 ≤ x = omega arith in rw (row_2 x g h) (At.two (shape_2 x g h) (omega arith)))
    | no b ↦ elim (dec_lt x 0x10000) [
      | yes h ↦ (let g : 0x800 ≤ x = omega arith in rw (row_3 x g h) (At.three (shape_3 x g h e) (omega arith)))
      | no c ↦ (let g : 0x10000 ≤ x = omega arith in rw (row_4 x g) (At.four (shape_4 x g (omega (arith, point_most x e))) (omega arith)))
    ]
  ]
]

back_six : (y : ℕ) → more (y / 64) (six y) ≡ y
back_six y = omega arith

-- and decodes to it
pub decodes : (x : ℕ) → is_point x ≡ true → decode (encode x) ≡ x
unfolding decode
decodes x e = elim (dec_lt x 0x80) [
  | yes h ↦ rw (row_1 x h)
  | no a ↦ elim (dec_lt x 0x800) [
    | yes h ↦ rw (row_2 x (omega arith) h) (let p : (0xc0 + x / 64) % 32 ≡ x / 64 = omega arith in rw p (back_six x))
    | no b ↦ elim (dec_lt x 0x10000) [
      | yes h ↦
          rw (row_3 x (omega arith) h)
          (let p : (0xe0 + x / 4096) % 16 ≡ x / 64 / 64 = omega arith in rw (p, back_six (x / 64)) (back_six x))
      | no c ↦
          rw (row_4 x (omega arith))
          (let h = point_most x e in
          let p : (0xf0 + x / 262144) % 8 ≡ x / 4096 / 64 = omega arith in
          rw (p, back_six (x / 4096), twice x, back_six (x / 64)) (back_six x))
    ]
  ]
]

-- the only good sequence that decodes to x is its encoding
pub only_sequence : (q : List ℕ) (x : ℕ) → 0 < length q → utf8_char q ≡ length q → decode q ≡ x → q ≡ encode x
only_sequence [] x h e d = absurd (omega arith)
only_sequence (b ∷ q) x h e d =
    let a = found (b ∷ q) 0 (length q) (omega arith) e in
    let t : take (suc (length q)) (b ∷ q) ≡ b ∷ q = take-length (b ∷ q) in
    sym t ∙ encoded_at a ∙ ap (λ (r : List ℕ). encode (decode r)) t ∙ ap encode d
