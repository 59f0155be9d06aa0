-- Shown: a turn keeps what a state of the merge has to be: each side tiles what is left of the original, and a side that is ahead remembers why.
-- How: by the kind of the operation taken; a retain by whether its side is behind. No overlap and no spelling is looked at.
use Prim.Native.Nat.{ℕ, suc, ◌+◌, ◌-◌, min, ◌≤◌, ◌<◌}
use mathlib.Core.Path.{◌≡◌, refl, ◌∙◌}
use mathlib.Core.Bool.{Bool, true, false, ◌&&◌}
use mathlib.Core.Logic.{◌⊎◌, inl, inr, ⊎_elim}
use mathlib.Core.List.{List, [], ◌∷◌}
use native.Mathlib.Omega.{arith}
use native.Mathlib.Decide.{dec_lt, ℕ_discrete}
use lib.Dec.{ltb, leb}
use lib.ListN.{length}
use borrow.Author.Tests.{lt-ltb, le-ltb, le-leb, lt-leb, eq-eqb}
use Rattle.overlap.specs.declared.Range.{Range}
use Rattle.merging.specs.declared.Op.{Op}
use Rattle.merging.specs.declared.Op.TheVariants.{Delete, Insert, Retain}
use Rattle.merging.specs.Lent.{Lent, Rules, keys_of, lengths_of}
use Rattle.merging.specs.Operations.{order_of, kind_of, span_of, empty_op}
use Rattle.merging.specs.Meeting.{cut_at, cut_at_end, kept_length, front_of, behind_cut, tail_of, Remembered, nothing, deleted, retained, inserted, lost_of, met_of, other_of, remember_of, width_of}
use Rattle.merging.specs.Tiling.{Tiled, kept_at}
use Rattle.merging.proofs.Meetings.{used_all, used_rest, appended_same, appended_new}

-- a remembered operation that is no insert ends where its side stands
abbrev pub Ends : Remembered → ℕ → Type 0
Ends nothing p = p ≡ 0
Ends (retained o l) p = o + l ≡ p
Ends (deleted o l) p = o + l ≡ p
Ends (inserted o ks ms) p = Unit {0}

-- what is known of a remembered operation of a side that stands at q, beyond where the other side, with ls next, stands
abbrev pub Held : Remembered → List Op → ℕ → Type 0
Held nothing ls q = ⊥
Held (inserted o ks ms) ls q = ⊥
Held (deleted o l) ls q = Unit {0}
Held (retained o l) [] q = ⊥
Held (retained o l) (Delete o' l' ∷ ls) q = ⊥
Held (retained o l) (Insert o' f' k' ∷ ls) q = ⊥
Held (retained o l) (Retain o' l' ∷ ls) q = q ≤ o' + l'

pub record Good (u : Remembered) (ls : List Op) (v : Remembered) (rs : List Op) (p q n : ℕ) : Type 0 where
  pub tiled_l : Tiled ls p n
  pub tiled_r : Tiled rs q n
  pub ends_l : Ends u p
  pub ends_r : Ends v q
  pub held_l : q < p → Held u rs p
  pub held_r : p < q → Held v ls q

pub turned_round : {u v : Remembered} {ls rs : List Op} {p q n : ℕ} → Good u ls v rs p q n → Good v rs u ls q p n
turned_round g = record { tiled_l = g.tiled_r; tiled_r = g.tiled_l; ends_l = g.ends_r; ends_r = g.ends_l; held_l = g.held_r; held_r = g.held_l }

-- an operation that is taken has no smaller rank than the other side's next one at the same place
abbrev pub Ahead : Op → List Op → Type 0
Ahead a [] = Unit {0}
Ahead a (x ∷ rs) = kind_of a ≤ kind_of x

-- what the result of a turn is, the other side standing at q and its own side then at at
abbrev pub Emits : Op → ℕ → ℕ → Type 0
Emits (Retain o l) at q = ((l ≡ 0) × (at ≤ q)) ⊎ ((0 < l) × (o ≡ q) × (o + l ≡ at))
Emits (Delete o l) at q = ((l ≡ 0) × (at ≤ q)) ⊎ ((0 < l) × (o ≡ q) × (o + l ≡ at))
Emits (Insert o f k) at q = at ≤ q

abbrev pub Both : Op → Bool → Type 0
Both (Retain o l) t = t ≡ true
Both (Delete o l) t = t ≡ false
Both (Insert o f k) t = Unit {0}

-- 1 where the next operation of a side will be lost, the other side standing at q
abbrev pub late : List Op → ℕ → ℕ
late [] q = 0
late (Retain o l ∷ os) q = elim (leb (o + l) q) [ true ↦ 1 | false ↦ 0 ]
late (Delete o l ∷ os) q = elim (leb (o + l) q) [ true ↦ 1 | false ↦ 0 ]
late (Insert o f k ∷ os) q = 0

-- how many operations are emitted for a result
abbrev pub emits : Op → ℕ
emits o = elim (empty_op o) [ true ↦ 0 | false ↦ 1 ]

pub emits_le : (o : Op) → emits o ≤ 1
emits_le o = go (empty_op o)
  where
    go : (t : Bool) → elim t as (λ x. ℕ) [ true ↦ 0 | false ↦ 1 ] ≤ 1
    go true = omega arith
    go false = omega arith

module _ (o l : ℕ) (os : List Op) (q : ℕ) where
  late_r : o + l ≤ q → late (Retain o l ∷ os) q ≡ 1
  late_r h = rw (le-leb _ _ h, late)

  late_r' : q < o + l → late (Retain o l ∷ os) q ≡ 0
  late_r' h = rw (lt-leb _ _ h, late)

  late_d : o + l ≤ q → late (Delete o l ∷ os) q ≡ 1
  late_d h = rw (le-leb _ _ h, late)

  late_d' : q < o + l → late (Delete o l ∷ os) q ≡ 0
  late_d' h = rw (lt-leb _ _ h, late)

emits_r : (o l : ℕ) → l ≡ 0 → emits (Retain o l) ≡ 0
emits_r o l h = rw (eq-eqb _ _ h, emits)

emits_d : (o l : ℕ) → l ≡ 0 → emits (Delete o l) ≡ 0
emits_d o l h = rw (eq-eqb _ _ h, emits)

-- a turn that takes a, with ls behind it; the other side stands at q, with rs next. It makes m of a, leaves `next` behind it, then
-- `own` and `other` are remembered, and its side stands at `at`
pub record Stepped (a : Op) (ls rs : List Op) (q n : ℕ) (m : Op) (next : List Op) (own other : Remembered) (at : ℕ) : Type 0 where
  pub good : Good own next other rs at q n
  pub out : Emits m at q
  pub both : (x : ℕ) → q ≤ x → x < at → Both m (kept_at (a ∷ ls) x && kept_at rs x)
  pub same : (x : ℕ) → at ≤ x → kept_at next x ≡ kept_at (a ∷ ls) x
  pub count : emits m + length next + late (a ∷ ls) q ≤ suc (length ls) + late rs at

-- where a side that took a stands
abbrev pub place_after : Op → List Op → ℕ
place_after a rs = order_of a + span_of (front_of a rs)

-- the turn of the merge
abbrev pub StepOf : Rules → Op → List Op → Remembered → Remembered → List Op → ℕ → ℕ → Type 0
StepOf R a ls u v rs q n =
    Stepped a ls rs q n (met_of R (front_of a rs) v) (tail_of a rs ls) (remember_of R.lent u (met_of R (front_of a rs) v)) (other_of R (front_of a rs) v)
    (place_after a rs)

pub tiled_le : (ls : List Op) (p n : ℕ) → Tiled ls p n → p ≤ n
tiled_le [] p n t = omega arith
tiled_le (Retain o l ∷ ls) p n t = let h : o + l ≤ n = tiled_le ls (o + l) n t.2 in omega arith
tiled_le (Delete o l ∷ ls) p n t = let h : o + l ≤ n = tiled_le ls (o + l) n t.2 in omega arith
tiled_le (Insert o f k ∷ ls) p n t = tiled_le ls p n t.2

-- what is lost to the other side's remembered operation is the part before where that side stands
lost_d_is : (R : Rules) (o l : ℕ) (v : Remembered) (ls : List Op) (q : ℕ) → Ends v q → (o < q → Held v (Delete o l ∷ ls) q) → lost_of R (Delete o l) v ≡ min l (q - o)
unfolding lost_of
lost_d_is R o l nothing ls q e h = omega arith
lost_d_is R o l (inserted o' ks ms) ls q e h = elim (dec_lt o q) [ yes z ↦ absurd (h z) | no z ↦ omega arith ]
lost_d_is R o l (retained o' l') ls q e h = elim (dec_lt o q) [ yes z ↦ absurd (h z) | no z ↦ omega arith ]
lost_d_is R o l (deleted o' l') ls q e h = omega arith

pub lost_r_is : (R : Rules) (o k : ℕ) (v : Remembered) (ls : List Op) (q : ℕ) → Ends v q → (o < q → Held v ls q) → lost_of R (Retain o k) v ≡ min k (q - o)
unfolding lost_of
lost_r_is R o l nothing ls q e h = omega arith
lost_r_is R o l (inserted o' ks ms) ls q e h = elim (dec_lt o q) [ yes z ↦ absurd (h z) | no z ↦ omega arith ]
lost_r_is R o l (retained o' l') ls q e h = omega arith
lost_r_is R o l (deleted o' l') ls q e h = omega arith

held_d : (o l : ℕ) (v : Remembered) (ls : List Op) (q : ℕ) → Held v (Delete o l ∷ ls) q → Held v ls q
held_d o l (deleted o' l') ls q h = tt
held_d o l nothing ls q h = elim h [ ]
held_d o l (retained _ _) ls q h = elim h [ ]
held_d o l (inserted _ _ _) ls q h = elim h [ ]

step_delete : (R : Rules) (o l : ℕ) (u : Remembered) (ls : List Op) (v : Remembered) (rs : List Op) (p q n : ℕ)
    → Good u (Delete o l ∷ ls) v rs p q n → p ≤ q → StepOf R (Delete o l) ls u v rs q n
unfolding met_of
step_delete R o l u ls v rs p q n g le =
    let e : o ≡ p = g.tiled_l.0 in
    let lp : 0 < l = g.tiled_l.1 in
    let z : lost_of R (Delete o l) v ≡ min l (q - o) = lost_d_is R o l v ls q g.ends_r (λ h. g.held_r (omega arith)) in
    rw z
    (record {
      good =
          record {
            tiled_l = g.tiled_l.2;
            tiled_r = g.tiled_r;
            ends_l = omega arith;
            ends_r = g.ends_r;
            held_l = λ h. tt;
            held_r = λ h. held_d o l v ls q (g.held_r (omega arith));
          };
      out = elim (dec_lt q (o + l)) [ yes h ↦ inr (omega arith, omega arith, omega arith) | no h ↦ inl (omega arith, omega arith) ];
      both = λ x h1 h2. simp (lt-ltb x (o + l) h2, kept_at);
      same = λ x h. simp (le-ltb x (o + l) h, kept_at);
      count =
          elim (dec_lt q (o + l)) [
            | yes h ↦ omega (arith, late_d' o l ls q h, emits_le (Delete (o + min l (q - o)) (l - min l (q - o))))
            | no h ↦ omega (arith, late_d o l ls q (omega arith), emits_d (o + min l (q - o)) (l - min l (q - o)) (omega arith))
          ];
    })

pub cut_in : (o l b : ℕ) → o < b → b < o + l → cut_at o l b ≡ b - o
unfolding cut_at
cut_in o l b h1 h2 = simp (lt-ltb _ _ h1, lt-ltb _ _ h2, cut_at)

pub cut_past : (o l b : ℕ) → o < b → o + l ≤ b → cut_at o l b ≡ l
unfolding cut_at
cut_past o l b h1 h2 = simp (lt-ltb _ _ h1, le-ltb _ _ h2, cut_at)

pub cut_none : (o l b : ℕ) → b ≤ o → cut_at o l b ≡ l
unfolding cut_at
cut_none o l b h = simp (le-ltb _ _ h, cut_at)

cut_min : (o l b : ℕ) → o < b → cut_at o l b ≡ min l (b - o)
cut_min o l b h = elim (dec_lt b (o + l)) [ yes z ↦ cut_in o l b h z ∙ omega arith | no z ↦ cut_past o l b h (omega arith) ∙ omega arith ]

-- where a tiled list that is not empty starts
pub starts : (x : Op) (xs : List Op) (q n : ℕ) → Tiled (x ∷ xs) q n → order_of x ≡ q
starts (Retain o l) xs q n t = t.0
starts (Delete o l) xs q n t = t.0
starts (Insert o f k) xs q n t = t.0

-- a Retain is cut where the other side stands, when that is beyond its order
pub keep_behind : (o l : ℕ) (rs : List Op) (q n : ℕ) → Tiled rs q n → o < q → o + l ≤ n → kept_length o l rs ≡ min l (q - o)
unfolding kept_length
keep_behind o l [] q n t h hn = omega arith
keep_behind o l (x ∷ xs) q n t h hn =
    let e : order_of x ≡ q = starts x xs q n t in
    rw (lt-ltb o (order_of x) (omega arith), kept_length) (cut_min o l (order_of x) (omega arith) ∙ omega arith)

pub cut_some : (o l b : ℕ) → 0 < l → 0 < cut_at o l b
cut_some o l b h =
    elim (dec_lt o b) [
      | yes z ↦ omega (arith, cut_min o l b z)
      | no z ↦ omega (arith, cut_none o l b (omega arith))
    ]

pub cut_less : (o l b : ℕ) → cut_at o l b ≤ l
cut_less o l b = elim (dec_lt o b) [ yes z ↦ omega (arith, cut_min o l b z) | no z ↦ omega (arith, cut_none o l b (omega arith)) ]

-- something of a retain is taken
pub keep_some : (o l : ℕ) (rs : List Op) (q n : ℕ) → Tiled rs q n → 0 < l → o ≡ q → 0 < kept_length o l rs
unfolding kept_length
keep_some o l [] q n t h e = h
keep_some o l (x ∷ rs) q n t h e =
    rw (le-ltb o (order_of x) (omega (arith, starts x rs q n t)), kept_length) (at_end x)
  where
    at_end : (x : Op) → 0 < cut_at_end o l x
    at_end (Delete o' l') = cut_some o l (o' + l') h
    at_end (Insert o' f' k') = h
    at_end (Retain o' l') = cut_some o l (o' + l') h

-- and no more than all of it
pub keep_less : (o l : ℕ) (rs : List Op) → kept_length o l rs ≤ l
unfolding kept_length
keep_less o l [] = omega arith
keep_less o l (x ∷ rs) = go (ltb o (order_of x)) refl
  where
    at_end : (x : Op) → cut_at_end o l x ≤ l
    at_end (Delete o' l') = cut_less o l (o' + l')
    at_end (Insert o' f' k') = omega arith
    at_end (Retain o' l') = cut_less o l (o' + l')

    go : (t : Bool) → ltb o (order_of x) ≡ t → kept_length o l (x ∷ rs) ≤ l
    go true e = rw (e, kept_length) (cut_less o l (order_of x))
    go false e = rw (e, kept_length) (at_end x)

-- and at the end of the other side's retain, when that has the same order
keep_level : (o l o' l' : ℕ) (rs : List Op) → o ≡ o' → 0 < l' → kept_length o l (Retain o' l' ∷ rs) ≡ min l l'
unfolding kept_length
keep_level o l o' l' rs e h = rw (le-ltb o o' (omega arith), kept_length) (cut_min o l (o' + l') (omega arith) ∙ omega arith)

tail_cut : (o l k : ℕ) (ls : List Op) → k < l → behind_cut o l k ls ≡ Retain (o + k) (l - k) ∷ ls
unfolding behind_cut
tail_cut o l k ls h = rw (lt-ltb k l h, behind_cut)

tail_all : (o l k : ℕ) (ls : List Op) → l ≤ k → behind_cut o l k ls ≡ ls
unfolding behind_cut
tail_all o l k ls h = rw (le-ltb k l h, behind_cut)

-- a Retain of which k is taken
module _ (R : Rules) (o l : ℕ) (u : Remembered) (ls : List Op) (v : Remembered) (rs : List Op) (p q n k : ℕ) (g : Good u (Retain o l ∷ ls) v rs p q n) where
  step_retain : kept_length o l rs ≡ k → 0 < k → k ≤ l → p ≤ q
      → (q < o + k → (o' l' : ℕ) → Held (retained o' l') rs (o + k))
      → (o + k < q → (ns : List Op) → Held v ns q)
      → (o + k ≤ q) ⊎ (o ≡ q)
      → ((x : ℕ) → q ≤ x → x < o + k → kept_at rs x ≡ true)
      → (k < l → q < o + l) → (o ≡ q → k < l → 1 ≤ late rs (o + k))
      → StepOf R (Retain o l) ls u v rs q n
  unfolding met_of
  step_retain ek kp kl le h1 h2 h3 h4 h5 h6 =
      let e : o ≡ p = g.tiled_l.0 in
      let z : lost_of R (Retain o k) v ≡ min k (q - o) = lost_r_is R o k v (Retain o l ∷ ls) q g.ends_r (λ h. g.held_r (omega arith)) in
      let out : ((k - min k (q - o) ≡ 0) × (o + k ≤ q)) ⊎ ((0 < k - min k (q - o)) × (o + min k (q - o) ≡ q) × ((o + min k (q - o)) + (k - min k (q - o)) ≡ o + k)) =
      ⊎_elim (λ w. inl (omega arith, omega arith)) (λ w. inr (omega arith, omega arith, omega arith)) h3 in
      rw (ek, z)
      (elim (dec_lt k l) [
        | yes d ↦
            rw (tail_cut o l k ls d)
            (let ends : o + k + (l - k) ≡ o + l = omega arith in
            record {
              good =
                  record {
                    tiled_l = (refl, omega arith, rw ends g.tiled_l.2);
                    tiled_r = g.tiled_r;
                    ends_l = omega arith;
                    ends_r = g.ends_r;
                    held_l = λ h. h1 h 0 0;
                    held_r = λ h. h2 h _;
                  };
              out = out;
              both = λ x a b. simp (lt-ltb x (o + l) (omega arith), h4 x a b, kept_at);
              same = λ x a. rw (ends, kept_at);
              count =
                  ⊎_elim
                  (λ w. omega (arith, late_r' o l ls q (h5 d), emits_r (o + min k (q - o)) (k - min k (q - o)) (omega arith)))
                  (λ w. omega (arith, late_r' o l ls q (h5 d), h6 w d, emits_le (Retain (o + min k (q - o)) (k - min k (q - o)))))
                  h3;
            })
        | no d ↦
            rw (tail_all o l k ls (omega arith))
            (let ends : o + k ≡ o + l = omega arith in
            record {
              good =
                  record {
                    tiled_l = rw ends g.tiled_l.2;
                    tiled_r = g.tiled_r;
                    ends_l = omega arith;
                    ends_r = g.ends_r;
                    held_l = λ h. h1 h 0 0;
                    held_r = λ h. h2 h _;
                  };
              out = out;
              both = λ x a b. simp (lt-ltb x (o + l) (omega arith), h4 x a b, kept_at);
              same = λ x a. simp (le-ltb x (o + l) (omega arith), kept_at);
              count =
                  ⊎_elim
                  (λ w. omega (arith, late_r o l ls q (omega arith), emits_r (o + min k (q - o)) (k - min k (q - o)) (omega arith)))
                  (λ w. omega (arith, late_r' o l ls q (omega arith), emits_le (Retain (o + min k (q - o)) (k - min k (q - o)))))
                  h3;
            })
      ])

pub held_any : (o l : ℕ) (v : Remembered) (ls ns : List Op) (q : ℕ) → Held v (Retain o l ∷ ls) q → (q ≤ o + l → ⊥) → Held v ns q
held_any o l (deleted o' l') ls ns q h no' = tt
held_any o l (retained o' l') ls ns q h no' = absurd (no' h)
held_any o l nothing ls ns q h no' = elim h [ ]
held_any o l (inserted _ _ _) ls ns q h no' = elim h [ ]

step_behind : (R : Rules) (o l : ℕ) (u : Remembered) (ls : List Op) (v : Remembered) (rs : List Op) (p q n : ℕ)
    → Good u (Retain o l ∷ ls) v rs p q n → p < q → StepOf R (Retain o l) ls u v rs q n
step_behind R o l u ls v rs p q n g lt =
    let e : o ≡ p = g.tiled_l.0 in
    let lp : 0 < l = g.tiled_l.1 in
    let end : o + l ≤ n = tiled_le ls (o + l) n g.tiled_l.2 in
    step_retain R o l u ls v rs p q n (min l (q - o)) g (keep_behind o l rs q n g.tiled_r (omega arith) end) (omega arith) (omega arith) (omega arith)
    (λ h. absurd (omega arith))
    (λ h ns. held_any o l v ls ns q (g.held_r lt) (omega arith))
    (inl (omega arith))
    (λ x h1 h2. absurd (omega arith))
    (λ h. omega arith)
    (λ h1 h2. absurd (omega arith))

step_level : (R : Rules) (o l : ℕ) (u : Remembered) (ls : List Op) (v : Remembered) (rs : List Op) (p q n : ℕ)
    → Good u (Retain o l ∷ ls) v rs p q n → p ≡ q → Ahead (Retain o l) rs → StepOf R (Retain o l) ls u v rs q n
step_level R o l u ls v [] p q n g eq a =
    let e : o ≡ p = g.tiled_l.0 in
    let lp : 0 < l = g.tiled_l.1 in
    let qn : q ≡ n = g.tiled_r in
    let end : o + l ≤ n = tiled_le ls (o + l) n g.tiled_l.2 in
    absurd (omega arith)
step_level R o l u ls v (Delete o' l' ∷ rs) p q n g eq a = absurd (omega arith)
step_level R o l u ls v (Insert o' f' k' ∷ rs) p q n g eq a = absurd (omega arith)
step_level R o l u ls v (Retain o' l' ∷ rs) p q n g eq a =
    let e : o ≡ p = g.tiled_l.0 in
    let lp : 0 < l = g.tiled_l.1 in
    let e' : o' ≡ q = g.tiled_r.0 in
    let lp' : 0 < l' = g.tiled_r.1 in
    step_retain R o l u ls v (Retain o' l' ∷ rs) p q n (min l l') g (keep_level o l o' l' rs (omega arith) lp') (omega arith) (omega arith) (omega arith)
    (λ h o'' l''. omega arith)
    (λ h ns. absurd (omega arith))
    (inr (omega arith))
    (λ x h1 h2. simp (lt-ltb x (o' + l') (omega arith), kept_at))
    (λ h. omega arith)
    (λ h1 h2. omega (arith, late_r o' l' rs (o + min l l') (omega arith)))

-- an insert changes nothing of where the sides stand
ends_remember : (lent : Lent) (u : Remembered) (o f k p : ℕ) → Ends (remember_of lent u (Insert o f k)) p
ends_remember lent nothing o f k p = tt
ends_remember lent (deleted o' l') o f k p = tt
ends_remember lent (retained o' l') o f k p = tt
ends_remember lent (inserted o' ks ms) o f k p =
    elim (ℕ_discrete o' o) [
      | yes e ↦ rw (appended_same o' ks ms o (keys_of lent f k) (lengths_of lent f k) e) tt
      | no e ↦ rw (appended_new o' ks ms o (keys_of lent f k) (lengths_of lent f k) e) tt
    ]

ends_other : (R : Rules) (o f k : ℕ) (v : Remembered) (q : ℕ) → Ends v q → Ends (other_of R (Insert o f k) v) q
ends_other R o f k nothing q e = e
ends_other R o f k (deleted o' l') q e = e
ends_other R o f k (retained o' l') q e = e
ends_other R o f k (inserted o' ks ms) q e =
    let r : Range = R.overlap ks (keys_of R.lent f k) in
    elim (ℕ_discrete (width_of r) k) [ yes h ↦ rw (used_all r k o' ks ms h) tt | no h ↦ rw (used_rest r k o' ks ms h) tt ]

held_other : (R : Rules) (o f k : ℕ) (v : Remembered) (ls : List Op) (q : ℕ) → Held v (Insert o f k ∷ ls) q → Held (other_of R (Insert o f k) v) ls q
held_other R o f k (deleted o' l') ls q h = tt
held_other R o f k nothing ls q h = elim h [ ]
held_other R o f k (retained _ _) ls q h = elim h [ ]
held_other R o f k (inserted _ _ _) ls q h = elim h [ ]

step_insert : (R : Rules) (o f k : ℕ) (u : Remembered) (ls : List Op) (v : Remembered) (rs : List Op) (p q n : ℕ)
    → Good u (Insert o f k ∷ ls) v rs p q n → p ≤ q → StepOf R (Insert o f k) ls u v rs q n
unfolding met_of
step_insert R o f k u ls v rs p q n g le =
    let z : ℕ = lost_of R (Insert o f k) v in
    let e : o + 0 ≡ p = omega (arith, g.tiled_l.0) in
    rw e
    (record {
      good =
          record {
            tiled_l = g.tiled_l.2;
            tiled_r = g.tiled_r;
            ends_l = ends_remember R.lent u o (f + z) (k - z) p;
            ends_r = ends_other R o f k v q g.ends_r;
            held_l = λ h. absurd (omega arith);
            held_r = λ h. held_other R o f k v ls q (g.held_r h);
          };
      out = le;
      both = λ x a b. tt;
      same = λ x a. refl;
      count = omega (arith, emits_le (Insert o (f + z) (k - z)));
    })

pub stepped : (R : Rules) (a : Op) (u : Remembered) (ls : List Op) (v : Remembered) (rs : List Op) (p q n : ℕ)
    → Good u (a ∷ ls) v rs p q n → p ≤ q → (p ≡ q → Ahead a rs) → StepOf R a ls u v rs q n
stepped R (Delete o l) u ls v rs p q n g le ah = step_delete R o l u ls v rs p q n g le
stepped R (Insert o f k) u ls v rs p q n g le ah = step_insert R o f k u ls v rs p q n g le
stepped R (Retain o l) u ls v rs p q n g le ah =
    elim (dec_lt p q) [
      | yes z ↦ step_behind R o l u ls v rs p q n g z
      | no z ↦ step_level R o l u ls v rs p q n g (omega arith) (ah (omega arith))
    ]
