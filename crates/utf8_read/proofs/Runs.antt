-- Runs of values of any type: what holds of each value of a part holds within the whole, and a run put into a room as others.
-- List arithmetic over `take` and `drop`. Assumes nothing.
use Rattle.std.proofs.Common.{◌≡◌, ℕ, ◌+◌, ◌-◌, ◌≤◌, ◌<◌, List, [], ◌∷◌, ◌++◌, length, get_or, set, take, drop, refl, sym, ap, subst, ◌∙◌, arith, add-one, length-set, get_or-take, get_or-drop, length-append, length-take, length-drop, drop-drop}
use native.Mathlib.Decide.{dec_lt}
use Rattle.std.proofs.Math.Seq.{take-suc, take-length, drop-append_seam, take-append_seam, sets-eq}
use Rattle.std.specs.List.{All, AllWithin, AllZip}
use Rattle.std.proofs.lemmas.List.Elements.{same_from_all_zip}
use Rattle.room.specs.Placed.{placed, Put}
use Rattle.room.proofs.Placing.{placed_none, placed_more}

pub part_within : {X : Type 0} (P : X → Type 0) (s : List X) (a n : ℕ) → All P (take n (drop a s)) → a + n ≤ length s → AllWithin P s a (a + n)
part_within P s a n f h k d l m =
    let i : k - a < n = omega arith in
    let z : a + (k - a) ≡ k = omega arith in
    let w : k - a < length (take n (drop a s)) = omega (arith, length-take n (drop a s), length-drop a s) in
    rw (get_or-take n (drop a s) (k - a) d i, get_or-drop a s (k - a) d, z) at (f (k - a) d w)

pub within_join : {X : Type 0} (P : X → Type 0) (s : List X) (a b c : ℕ) → AllWithin P s a b → AllWithin P s b c → AllWithin P s a c
within_join P s a b c f g k d l h = elim (dec_lt k b) [ yes w ↦ f k d l w | no w ↦ g k d (omega arith) h ]

-- the next block of a run, and what is behind it
module _ {X : Type 0} (s b r : List X) (e n : ℕ) (w : drop e s ≡ b ++ r) (l : length b ≡ n) where
  pub next_rest : r ≡ drop (e + n) s
  next_rest = sym (drop-append_seam b r) ∙ ap (λ (k : ℕ). drop k (b ++ r)) l ∙ ap (λ (t : List X). drop n t) (sym w) ∙ drop-drop n e s

  pub next_most : e ≤ length s → e + n ≤ length s
  next_most h = omega (arith, length-drop e s, ap length w, length-append b r)

  pub next_within : (P : X → Type 0) → e ≤ length s → All P b → AllWithin P s e (e + n)
  next_within P h f =
      let q : take n (drop e s) ≡ b = ap (λ (t : List X). take n t) w ∙ ap (λ (k : ℕ). take k (b ++ r)) (sym l) ∙ take-append_seam b r in
      part_within P s e n (rw q f) (next_most h)

zip_push : {T U : Type 0} (R : T → U → Type 0) (xs : List T) (ys : List U) (x : T) (y : U) → AllZip R xs ys → R x y → AllZip R (xs ++ (x ∷ [])) (ys ++ (y ∷ []))
zip_push R [] [] x y f r = (r, tt)
zip_push R [] (b ∷ ys) x y f r = absurd f
zip_push R (a ∷ xs) [] x y f r = absurd f
zip_push R (a ∷ xs) (b ∷ ys) x y f r = (f.0, zip_push R xs ys x y f.1 r)

-- how far a run is put as others
pub record Filled {T U : Type 0} (R : T → U → Type 0) (src : List T) (d : List U) (at : ℕ) (o : List U) (i : ℕ) : Type 0 where
  pub others : List U
  pub count : length others ≡ i
  pub each : AllZip R (take i src) others
  pub there : o ≡ placed d at others
  pub kept : length o ≡ length d

pub filled_none : {T U : Type 0} (R : T → U → Type 0) (src : List T) (d : List U) (at : ℕ) → Filled R src d at d 0
filled_none R src d at = record { others = []; count = refl; each = tt; there = sym (placed_none d at); kept = refl }

pub filled_more :
    {T U : Type 0} {R : T → U → Type 0} {src : List T} {d o : List U} {at i : ℕ} → Filled R src d at o i → at + length src ≤ length d → i < length src
    → (z : T) (y : U) → z ≡ get_or src i z → R z y → Filled R src d at (set o (at + i) y) (i + 1)
unfolding placed
filled_more {T} {U} {R} {src} {d} {o} {at} {i} f m l z y q r = record {
  others = f.others ++ (y ∷ []);
  count = rw length-append (omega (arith, f.count));
  each = rw (add-one i, take-suc src i z l) (zip_push R (take i src) f.others (get_or src i z) y f.each (subst (λ (x : T). R x y) q r));
  there =
      let e : at + length f.others ≡ at + i = omega (arith, f.count) in
      sets-eq (y ∷ []) o (at + i) (omega (arith, f.kept))
      ∙ ap (λ (t : List U). placed t (at + i) (y ∷ [])) f.there
      ∙ ap (λ (k : ℕ). placed (placed d at f.others) k (y ∷ [])) (sym e)
      ∙ placed_more d at f.others (y ∷ []) (omega arith);
  kept = rw length-set f.kept;
}

pub filled_all :
    {T U : Type 0} {R : T → U → Type 0} {src : List T} {d o : List U} {at i r : ℕ} → Filled R src d at o i → i ≡ length src → r ≡ at + length src
    → (others : List U) × AllZip R src others × Put others d at o r
filled_all {T} {U} {R} {src} f e n =
    (f.others, rw (e, take-length src) at f.each, record { next = omega (arith, f.count); stands = f.there })

-- others that are each what their value is are the run itself
pub put_same : {T : Type 0} {R : T → T → Type 0} {src d o : List T} {at r : ℕ} → (others : List T) × AllZip R src others × Put others d at o r → ((x y : T) → R x y → y ≡ x) → Put src d at o r
put_same {T} {R} {src} p same = rw (same_from_all_zip R src p.0 p.1 same) at p.2
