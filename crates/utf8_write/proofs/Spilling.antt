-- The bytes of a text, measured and put into a room part by part.
-- The bytes of two parts are the bytes of the first and then of the second. Assumes nothing.
use mathlib.Core.Path.{◌≡◌, refl, sym, ap, ◌∙◌}
use mathlib.Core.List.{List, [], ◌∷◌, ◌++◌}
use Prim.Native.Nat.{ℕ, zero, suc, ◌+◌, ◌*◌, ◌-◌, ◌≤◌, ◌<◌}
use native.Mathlib.Omega.{arith}
use native.Mathlib.Decide.{dec_lt}
use lib.ListN.{length, get_or, take, drop, length-append, take-append-drop, length-drop, length-take}
use lib.Seq.{take-add, take_all, get_or-drop, get_or-take, length-take-le}
use Rattle.numbers.specs.Steps.{step}
use Rattle.numbers.specs.Sums.{sum_of}
use Rattle.numbers.proofs.Steps.{step_yes, step_no}
use Rattle.std.specs.List.{All}
use Rattle.std.proofs.lemmas.List.Elements.{All-from_get_or}
use Rattle.room.specs.Placed.{placed, answered, Put}
use Rattle.room.proofs.Answers.{at_start, one_more, same_room}
use Rattle.utf8_read.specs.Table.{encode}
use Rattle.utf8_read.specs.Window.{Ascii}
use Rattle.utf8_read.proofs.Sequences.{front_1}
use Rattle.utf8_write.specs.Writing.{encode_all}
use Rattle.utf8_write.proofs.Encodes.{row_1, row_2, row_3, row_4, none, one, parts}

width_1 : (x : ℕ) → x < 0x80 → 1 ≡ length (encode x)
width_1 x h = rw (row_1 x h)

width_2 : (x : ℕ) → 0x80 ≤ x → x < 0x800 → 2 ≡ length (encode x)
width_2 x g h = rw (row_2 x g h)

width_3 : (x : ℕ) → 0x800 ≤ x → x < 0x10000 → 3 ≡ length (encode x)
width_3 x g h = rw (row_3 x g h)

width_4 : (x : ℕ) → 0x10000 ≤ x → 4 ≡ length (encode x)
width_4 x g = rw (row_4 x g)

pub at_most_4 : (x : ℕ) → length (encode x) ≤ 4
at_most_4 x = elim (dec_lt x 0x80) [
  | yes h ↦ omega (arith, width_1 x h)
  | no a ↦ elim (dec_lt x 0x800) [
    | yes h ↦ omega (arith, width_2 x (omega arith) h)
    | no b ↦ elim (dec_lt x 0x10000) [
      | yes h ↦ omega (arith, width_3 x (omega arith) h)
      | no c ↦ omega (arith, width_4 x (omega arith))
    ]
  ]
]

abbrev pub wide : List ℕ → ℕ
wide s = length (encode_all s)

pub wide_both : (s t : List ℕ) → wide (s ++ t) ≡ wide s + wide t
wide_both s t = ap length (parts s t) ∙ length-append (encode_all s) (encode_all t)

pub wide_one : (x : ℕ) → wide (x ∷ []) ≡ length (encode x)
wide_one x = ap length (one x)

pub wide_none : 0 ≡ wide []
wide_none = rw none

pub wide_most : (s : List ℕ) → wide s ≤ 4 * length s
wide_most [] = omega (arith, wide_none)
wide_most (x ∷ s) = omega (arith, wide_both (x ∷ []) s, wide_one x, at_most_4 x, wide_most s)

-- a step at each change of length
pub steps : (x : ℕ) → 1 + step x 0x80 + step x 0x800 + step x 0x10000 ≡ length (encode x)
steps x = elim (dec_lt x 0x80) [
  | yes h ↦ omega (arith, width_1 x h, step_no x 0x80 h, step_no x 0x800 (omega arith), step_no x 0x10000 (omega arith))
  | no a ↦ elim (dec_lt x 0x800) [
    | yes h ↦ omega (arith, width_2 x (omega arith) h, step_yes x 0x80 (omega arith), step_no x 0x800 h, step_no x 0x10000 (omega arith))
    | no b ↦ elim (dec_lt x 0x10000) [
      | yes h ↦ omega (arith, width_3 x (omega arith) h, step_yes x 0x80 (omega arith), step_yes x 0x800 (omega arith), step_no x 0x10000 h)
      | no c ↦ omega (arith, width_4 x (omega arith), step_yes x 0x80 (omega arith), step_yes x 0x800 (omega arith), step_yes x 0x10000 (omega arith))
    ]
  ]
]

-- the bytes of a text, summed up
pub wide_sum : (s : List ℕ) → sum_of (λ x. length (encode x)) s ≡ wide s
unfolding sum_of
wide_sum [] = wide_none
wide_sum (x ∷ s) = omega (arith, wide_both (x ∷ []) s, wide_one x, wide_sum s)

-- ASCII numbers are their own bytes
plain_all : (l : List ℕ) → Ascii l 0 (length l) → encode_all l ≡ l
unfolding encode_all
plain_all [] f = refl
plain_all (x ∷ l) f =
    rw (row_1 x (f 0 (omega arith) (omega arith)))
    (ap (λ (r : List ℕ). x ∷ r) (plain_all l (λ k a h. f (suc k) (omega arith) (omega arith))))

pub part_ascii : (s : List ℕ) (i e : ℕ) → i ≤ e → e ≤ length s → Ascii s i e → Ascii (take (e - i) (drop i s)) 0 (length (take (e - i) (drop i s)))
part_ascii s i e l h f k a m =
    let w = length-take-le (e - i) (drop i s) (rw length-drop (omega arith)) in
    rw (get_or-take (e - i) (drop i s) k 0 (omega arith), get_or-drop i s k 0) (f (i + k) (omega arith) (omega arith))

pub plain_measured : (s : List ℕ) (e : ℕ) → e ≤ length s → Ascii s 0 e → e + wide (drop e s) ≡ wide s
plain_measured s e h f =
    omega (
      arith,
      ap (λ (r : List ℕ). wide r) (take-append-drop e s),
      wide_both (take e s) (drop e s),
      ap length (plain_all (take e s) (λ k a m. rw (get_or-take e s k 0 (omega (arith, length-take-le e s h))) (f k a (omega (arith, length-take-le e s h))))),
      length-take-le e s h,
    )

-- the ASCII at a text's start, and what the rest sums up to
pub width_all : (s : List ℕ) (e n : ℕ) → e ≤ length s → Ascii s 0 e → n ≡ sum_of (λ x. length (encode x)) (take (length s - e) (drop e s)) → e + n ≡ wide s
width_all s e n h f q =
    omega (
      arith,
      q,
      ap (λ (r : List ℕ). sum_of (λ x. length (encode x)) r) (take_all (length s - e) (drop e s) (omega (arith, length-drop e s))),
      wide_sum (drop e s),
      plain_measured s e h f,
    )

-- a number of a part is one of the whole
pub part_at : (s : List ℕ) (e f k : ℕ) → k < length (take (f - e) (drop e s)) → (e + k < length s) × (get_or (take (f - e) (drop e s)) k 0 ≡ get_or s (e + k) 0)
part_at s e f k h =
    let l : k < f - e = omega (arith, length-take (f - e) (drop e s)) in
    (omega (arith, length-take (f - e) (drop e s), length-drop e s), rw (get_or-take (f - e) (drop e s) k 0 l, get_or-drop e s k 0) refl)

-- a text whose bytes are as many as its numbers is ASCII
at_least_1 : (x : ℕ) → (1 ≤ length (encode x)) × (length (encode x) ≤ 1 → x < 0x80)
at_least_1 x = elim (dec_lt x 0x80) [
  | yes h ↦ (omega (arith, width_1 x h), λ _. h)
  | no a ↦ elim (dec_lt x 0x800) [
    | yes h ↦ (let w = width_2 x (omega arith) h in (omega arith, λ l. absurd (omega arith)))
    | no b ↦ elim (dec_lt x 0x10000) [
      | yes h ↦ (let w = width_3 x (omega arith) h in (omega arith, λ l. absurd (omega arith)))
      | no c ↦ (let w = width_4 x (omega arith) in (omega arith, λ l. absurd (omega arith)))
    ]
  ]
]

wide_least : (s : List ℕ) → length s ≤ wide s
wide_least [] = omega arith
wide_least (x ∷ s) = omega (arith, wide_both (x ∷ []) s, wide_one x, (at_least_1 x).0, wide_least s)

narrow_text : (s : List ℕ) → wide s ≡ length s → Ascii s 0 (length s)
narrow_text [] e k l h = absurd (omega arith)
narrow_text (x ∷ s) e zero l h = (at_least_1 x).1 (omega (arith, wide_both (x ∷ []) s, wide_one x, wide_least s))
narrow_text (x ∷ s) e (suc k) l h =
    narrow_text s (omega (arith, wide_both (x ∷ []) s, wide_one x, (at_least_1 x).0, wide_least s)) k (omega arith) (omega arith)

pub narrow_room : (s d d' : List ℕ) (r : ℕ) → wide s ≡ length s → Put s d 0 d' r → d' ≡ answered (encode_all s) d
narrow_room s d d' r e w = w.stands ∙ at_start s d ∙ ap (λ (a : List ℕ). answered a d) (sym (plain_all s (narrow_text s e)))

pub narrow_all : (s : List ℕ) → wide s ≡ length s → All (λ x. x < 0x80) s
narrow_all s e = All-from_get_or (λ (x : ℕ). x < 0x80) s 0 (λ k h. narrow_text s e k (omega arith) h)

-- how far the room is filled
pub record Spilling (s d o : List ℕ) (i at : ℕ) : Type 0 where
  pub most : i ≤ length s
  pub place : at ≡ wide (take i s)
  pub room : o ≡ answered (encode_all (take i s)) d

pub begins : (s d : List ℕ) → Spilling s d d 0 0
begins s d = record { most = omega arith; place = wide_none; room = rw none }

module _ {s d o : List ℕ} {i at : ℕ} (f : Spilling s d o i at) where
  whole : (m : ℕ) → wide s ≡ wide (take i s) + wide (take m (drop i s)) + wide (drop m (drop i s))
  whole m =
      omega (
        arith,
        ap (λ (r : List ℕ). wide r) (take-append-drop i s),
        wide_both (take i s) (drop i s),
        ap (λ (r : List ℕ). wide r) (take-append-drop m (drop i s)),
        wide_both (take m (drop i s)) (drop m (drop i s)),
      )

  pub as_long : wide s ≤ length d → length o ≡ length d
  as_long h = rw f.room (same_room (encode_all (take i s)) d (omega (arith, whole 0)))

  fits : (m : ℕ) (a : List ℕ) → encode_all (take m (drop i s)) ≡ a → wide s ≤ length d → at + length a ≤ length o
  fits m a e h = omega (arith, as_long h, whole m, ap length e, f.place)

  by_part : (m r : ℕ) (a o' : List ℕ) → encode_all (take m (drop i s)) ≡ a → i + m ≤ length s → Put a o at o' r → Spilling s d o' (i + m) r
  by_part m r a o' e h w =
      let t : encode_all (take (i + m) s) ≡ encode_all (take i s) ++ a
      = ap encode_all (take-add i m s) ∙ parts (take i s) (take m (drop i s)) ∙ ap (λ (z : List ℕ). encode_all (take i s) ++ z) e in
      record {
        most = h;
        place = omega (arith, w.next, f.place, ap length t, length-append (encode_all (take i s)) a);
        room =
            w.stands
            ∙ ap (λ (z : List ℕ). placed z at a) f.room
            ∙ ap (λ (n : ℕ). placed (answered (encode_all (take i s)) d) n a) f.place
            ∙ one_more (encode_all (take i s)) a d
            ∙ ap (λ (z : List ℕ). answered z d) (sym t);
      }

  module _ (e : ℕ) (l : i ≤ e) (h : e ≤ length s) (p : Ascii s i e) where
    plain_part : encode_all (take (e - i) (drop i s)) ≡ take (e - i) (drop i s)
    plain_part = plain_all (take (e - i) (drop i s)) (part_ascii s i e l h p)

    pub run_fits : wide s ≤ length d → at + length (take (e - i) (drop i s)) ≤ length o
    run_fits w = fits (e - i) (take (e - i) (drop i s)) plain_part w

    pub by_run : (r : ℕ) (o' : List ℕ) → Put (take (e - i) (drop i s)) o at o' r → Spilling s d o' e r
    by_run r o' w =
        let q : i + (e - i) ≡ e = omega arith in
        rw q at (by_part (e - i) r (take (e - i) (drop i s)) o' plain_part (omega arith) w)

  module _ (l : i < length s) where
    code_part : encode_all (take 1 (drop i s)) ≡ encode (get_or s i 0)
    code_part = rw (front_1 s i (omega arith)) (one (get_or s i 0))

    pub code_fits : wide s ≤ length d → at + length (encode (get_or s i 0)) ≤ length o
    code_fits w = fits 1 (encode (get_or s i 0)) code_part w

    pub by_code : (r : ℕ) (o' : List ℕ) → Put (encode (get_or s i 0)) o at o' r → Spilling s d o' (i + 1) r
    by_code r o' w = by_part 1 r (encode (get_or s i 0)) o' code_part (omega arith) w

  pub ends : length s ≤ i → o ≡ answered (encode_all s) d
  ends h = f.room ∙ ap (λ (z : List ℕ). answered (encode_all z) d) (take_all i s h)
