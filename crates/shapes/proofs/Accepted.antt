-- The facts of an accepted list: each check gives `Accepted` exactly when its fact holds; the length of the list's text.
-- By induction on what the check walks. Assumes nothing.
use Prim.Native.Nat.{ℕ, ◌+◌, ◌≤◌, ◌<◌}
use mathlib.Core.Path.{◌≡◌, refl}
use mathlib.Core.Bool.{true, false, ◌&&◌, ◌||◌}
use mathlib.Core.Logic.{◌⊎◌, inl, inr, ⊎_elim}
use mathlib.Core.List.{List, [], ◌∷◌}
use native.Mathlib.Omega.{arith}
use native.Mathlib.Decide.{ℕ_discrete, dec_le}
use lib.ListN.{length, take, drop, length-append, length-take, length-drop}
use lib.Dec.{eqb, leb, ltb}
use borrow.Author.Tests.{eq-eqb, ne_eqb, lt-ltb, le-ltb, le-leb, lt-leb, leb-true, ltb-true, eqb-true}
use Rattle.refusal.specs.declared.Refusal.TheVariants as R
use Rattle.records.specs.declared.Operation.{Operation}
use Rattle.records.specs.declared.Token.{Token}
use Rattle.records.specs.declared.Cursor.{Cursor}
use Rattle.records.specs.Tokens.{tokens_lent, tokens_from, spell, spelled, tokens_length}
use Rattle.records.proofs.TokenLaws.{length_spell}
use Rattle.sizes.specs.declared.Limits.{Limits}
use Rattle.sizes.specs.Texts.{total, in_text, run_text, run_lent, inserted_by, retained_by, text_length, text_from, list_text}
use Rattle.sizes.specs.Sizes.{Small, lent_fits, list_fits}
use Rattle.sizes.proofs.Fits.{sized_of}
use Rattle.shapes.specs.Shapes.{run_good, is_run, is_record, records_from}
use Rattle.shapes.specs.Tiling.{tiling_from, tiling_of, within_from}
use Rattle.records.specs.Cursors.{Within}
use Rattle.shapes.specs.Accepted.{Tiles, AllIn, Insert, Part, Shapes, AcceptedList}
use Rattle.room.proofs.Choices.{no_way}
use Rattle.room.proofs.Bools.{and_left, and_right}
use Rattle.verdict.proofs.Chains.{never, went}
use Rattle.std.specs.Prelude.{Err}
use Rattle.verdict.specs.Verdicts.{accepted}

-- tiling

pub tiles_of : (n : ℕ) (os : List Operation) (i at : ℕ) → tiling_from n os i at ≡ accepted → Tiles n os at
unfolding tiling_from Tiles
tiles_of n [] i at h =
    elim (ℕ_discrete at n) [
      | yes e ↦ e
      | no e ↦ let z : Err (R.Tiling i) ≡ accepted = rw (ne_eqb at n e, tiling_from) at h in never z
    ]
tiles_of n (o ∷ os) i at h =
    elim (ℕ_discrete o.kind 1) [
      | yes k ↦ rw (eq-eqb o.kind 1 k, Tiles) (tiles_of n os (i + 1) at (rw (eq-eqb o.kind 1 k, tiling_from) at h))
      | no k ↦
          elim (ℕ_discrete o.order at) [
            | yes q ↦
                elim (dec_le (at + o.length) n) [
                  | yes w ↦
                      rw (ne_eqb o.kind 1 k, Tiles)
                      (q, (w, tiles_of n os (i + 1) (at + o.length) (rw (ne_eqb o.kind 1 k, eq-eqb o.order at q, le-leb (at + o.length) n w, tiling_from) at h)))
                  | no w ↦
                      let z : Err (R.Tiling i) ≡ accepted =
                      rw (ne_eqb o.kind 1 k, eq-eqb o.order at q, lt-leb (at + o.length) n (omega arith), tiling_from) at h
                      in
                      never z
                ]
            | no q ↦ let z : Err (R.Tiling i) ≡ accepted = rw (ne_eqb o.kind 1 k, ne_eqb o.order at q, tiling_from) at h in never z
          ]
    ]

pub tiling_yes : (n : ℕ) (os : List Operation) (i at : ℕ) → Tiles n os at → tiling_from n os i at ≡ accepted
unfolding Tiles tiling_from
tiling_yes n [] i at h = rw (eq-eqb at n h, tiling_from)
tiling_yes n (o ∷ os) i at h =
    elim (ℕ_discrete o.kind 1) [
      | yes k ↦ rw (eq-eqb o.kind 1 k, tiling_from) (tiling_yes n os (i + 1) at (rw (eq-eqb o.kind 1 k, Tiles) at h))
      | no k ↦
          let p : (o.order ≡ at) × ((at + o.length ≤ n) × Tiles n os (at + o.length)) = rw (ne_eqb o.kind 1 k, Tiles) at h in
          rw (ne_eqb o.kind 1 k, eq-eqb o.order at p.0, le-leb (at + o.length) n p.1.0, tiling_from)
          (tiling_yes n os (i + 1) (at + o.length) p.1.1)
    ]

-- what is retained lies in the original
pub retained_most : (n : ℕ) (os : List Operation) (at : ℕ) → Tiles n os at → at + total retained_by os ≤ n
unfolding Tiles total
retained_most n [] at h = omega arith
retained_most n (o ∷ os) at h =
    elim (ℕ_discrete o.kind 1) [
      | yes k ↦
          let w = retained_most n os at (rw (eq-eqb o.kind 1 k, Tiles) at h) in
          rw (ne_eqb o.kind 2 (λ e. omega arith)) (omega arith)
      | no k ↦
          let p : (o.order ≡ at) × ((at + o.length ≤ n) × Tiles n os (at + o.length)) = rw (ne_eqb o.kind 1 k, Tiles) at h in
          let w = retained_most n os (at + o.length) p.1.1 in
          elim (ℕ_discrete o.kind 2) [
            | yes q ↦ rw (eq-eqb o.kind 2 q) (omega arith)
            | no q ↦ rw (ne_eqb o.kind 2 q) (omega arith)
          ]
    ]

-- shapes

pub all_in : (n : ℕ) (ts : List Token) → run_good n ts ≡ true → AllIn n ts
unfolding run_good AllIn
all_in n [] h = tt
all_in n (t ∷ ts) h =
    let g = and_left (ltb 0 t.length && in_text n t) (run_good n ts) h in (
      ltb-true 0 t.length (and_left (ltb 0 t.length) (in_text n t) g),
      (
        leb-true (t.start + t.length) n (and_right (ltb 0 t.length) (in_text n t) g),
        all_in n ts (and_right (ltb 0 t.length && in_text n t) (run_good n ts) h),
      ),
    )

run_good_lem : (n : ℕ) (ts : List Token) → AllIn n ts → run_good n ts ≡ true
unfolding AllIn run_good
run_good_lem n [] h = refl
run_good_lem n (t ∷ ts) h = rw (lt-ltb 0 t.length h.0, le-leb (t.start + t.length) n h.1.0) (run_good_lem n ts h.1.1)

module _ (n : ℕ) (spans keys : List ℕ) (o : Operation) where
  insert_of : o.kind ≡ 1 → is_run n spans keys o ≡ true → Insert n spans keys o
  insert_of k h =
      let ts : List Token = tokens_from spans keys o.first o.count in
      let g : run_lent spans keys o && run_good n ts ≡ true = and_right (ltb 0 o.count) (run_lent spans keys o && run_good n ts) h in
      record {
        kind = k;
        some = ltb-true 0 o.count (and_left (ltb 0 o.count) (run_lent spans keys o && run_good n ts) h);
        lent = leb-true (o.first + o.count) (tokens_lent spans keys) (and_left (run_lent spans keys o) (run_good n ts) g);
        tokens = all_in n ts (and_right (run_lent spans keys o) (run_good n ts) g);
      }

  part_of : (eqb o.kind 0 || eqb o.kind 2) && ltb 0 o.length ≡ true → Part o
  part_of h =
      let s : 0 < o.length = ltb-true 0 o.length (and_right (eqb o.kind 0 || eqb o.kind 2) (ltb 0 o.length) h) in
      let g : eqb o.kind 0 || eqb o.kind 2 ≡ true = and_left (eqb o.kind 0 || eqb o.kind 2) (ltb 0 o.length) h in
      elim (ℕ_discrete o.kind 0) [
        | yes k ↦ record { kind = inl k; some = s }
        | no k ↦ record { kind = inr (eqb-true o.kind 2 (rw (ne_eqb o.kind 0 k) at g)); some = s }
      ]

  pub shape_of : is_record n spans keys o ≡ true → (o.side < 2) × (Insert n spans keys o ⊎ Part o)
  shape_of h =
      elim (dec_le o.side 1) [
        | yes s ↦
            elim (ℕ_discrete o.kind 1) [
              | yes k ↦ (omega arith, inl (insert_of k (rw (lt-ltb o.side 2 (omega arith), eq-eqb o.kind 1 k) at h)))
              | no k ↦ (omega arith, inr (part_of (rw (lt-ltb o.side 2 (omega arith), ne_eqb o.kind 1 k) at h)))
            ]
        | no s ↦ let z : false ≡ true = rw (le-ltb o.side 2 (omega arith)) at h in no_way z
      ]

pub shapes_of : (n : ℕ) (spans keys : List ℕ) (os : List Operation) (i : ℕ) → records_from n spans keys os i ≡ accepted → Shapes n spans keys os
unfolding records_from Shapes
shapes_of n spans keys [] i h = tt
shapes_of n spans keys (o ∷ os) i h =
    let w = went (is_record n spans keys o) (records_from n spans keys os (i + 1)) (R.Record i) h in
    let s = shape_of n spans keys o w.0 in
    (s.0, (s.1, shapes_of n spans keys os (i + 1) w.1))

module _ (n : ℕ) (spans keys : List ℕ) where
  record_yes : (o : Operation) → o.side < 2 → Insert n spans keys o ⊎ Part o → is_record n spans keys o ≡ true
  record_yes o s (inl i) =
      rw (
        lt-ltb o.side 2 s,
        eq-eqb o.kind 1 i.kind,
        lt-ltb 0 o.count i.some,
        le-leb (o.first + o.count) (tokens_lent spans keys) i.lent,
        run_good_lem n (tokens_from spans keys o.first o.count) i.tokens,
      )
  record_yes o s (inr p) =
      ⊎_elim
      (λ (k : o.kind ≡ 0). rw (lt-ltb o.side 2 s, ne_eqb o.kind 1 (λ e. omega arith), eq-eqb o.kind 0 k, lt-ltb 0 o.length p.some))
      (λ (k : o.kind ≡ 2).
      rw (
        lt-ltb o.side 2 s,
        ne_eqb o.kind 1 (λ e. omega arith),
        ne_eqb o.kind 0 (λ e. omega arith),
        eq-eqb o.kind 2 k,
        lt-ltb 0 o.length p.some,
      ))
      p.kind

  pub records_yes : (os : List Operation) (i : ℕ) → Shapes n spans keys os → records_from n spans keys os i ≡ accepted
  unfolding Shapes records_from
  records_yes [] i h = refl
  records_yes (o ∷ os) i h = rw (record_yes o h.0 h.1.0, records_from) (records_yes os (i + 1) h.1.1)

-- cursors

pub within_of : (e : ℕ) (cs : List Cursor) (i : ℕ) → within_from e cs i ≡ accepted → Within e cs
unfolding within_from Within
within_of e [] i h = tt
within_of e (c ∷ cs) i h =
    let w = went (leb c.index e) (within_from e cs (i + 1)) (R.Cursor i) h in
    (leb-true c.index e w.0, within_of e cs (i + 1) w.1)

pub within_yes : (e : ℕ) (cs : List Cursor) (i : ℕ) → Within e cs → within_from e cs i ≡ accepted
unfolding Within within_from
within_yes e [] i h = refl
within_yes e (c ∷ cs) i h = rw (le-leb c.index e h.0, within_from) (within_yes e cs (i + 1) h.1)

-- the list whole

module _ (l : Limits) (original text spans keys : List ℕ) (os : List Operation) (cs : List Cursor) where
  -- a sized list that tiles has a text below the cap of the code's sums
  pub text_small : Small l → lent_fits original text ≡ true → list_fits l (length text) spans keys os cs ≡ true → tiling_of (length original) os ≡ accepted
      → text_length (length text) spans keys os < 1000000
  text_small s f g t =
      let z = sized_of l original text spans keys os cs f g in
      omega (arith, z.original_most, z.inserted_most, s.text, retained_most (length original) os 0 (tiles_of (length original) os 0 0 t))

  pub list_facts : lent_fits original text ≡ true → list_fits l (length text) spans keys os cs ≡ true → records_from (length text) spans keys os 0 ≡ accepted
      → tiling_of (length original) os ≡ accepted → within_from (text_length (length text) spans keys os) cs 0 ≡ accepted
      → AcceptedList l original text spans keys os cs
  list_facts f g r t w =
      let z = sized_of l original text spans keys os cs f g in
      record {
        original_most = z.original_most;
        text_most = z.text_most;
        operations_most = z.operations_most;
        cursors_most = z.cursors_most;
        tokens_most = z.tokens_most;
        inserted_most = z.inserted_most;
        shapes = shapes_of (length text) spans keys os 0 r;
        tiles = tiles_of (length original) os 0 0 t;
        within = within_of (text_length (length text) spans keys os) cs 0 w;
      }

-- the length of an accepted list's text

pub run_length : (n : ℕ) (ts : List Token) → AllIn n ts → run_text n ts ≡ tokens_length ts
unfolding AllIn run_text tokens_length
run_length n [] a = refl
run_length n (t ∷ ts) a = rw (le-leb (t.start + t.length) n a.1.0, run_length n ts a.1.1)

pub spelled_length : (text : List ℕ) (ts : List Token) → AllIn (length text) ts → length (spelled text ts) ≡ tokens_length ts
unfolding AllIn spelled tokens_length
spelled_length text [] a = refl
spelled_length text (t ∷ ts) a = rw (length-append (spell text t) (spelled text ts), length_spell text t a.1.0, spelled_length text ts a.1.1)

-- what an insert adds is what it spells
pub inserted_length : (n : ℕ) (spans keys : List ℕ) (o : Operation) → Insert n spans keys o
    → inserted_by n spans keys o ≡ tokens_length (tokens_from spans keys o.first o.count)
inserted_length n spans keys o i =
    rw (eq-eqb o.kind 1 i.kind, le-leb (o.first + o.count) (tokens_lent spans keys) i.lent, inserted_by)
    (run_length n (tokens_from spans keys o.first o.count) i.tokens)

inserted_none : (n : ℕ) (spans keys : List ℕ) (o : Operation) → (o.kind ≡ 1 → ⊥) → inserted_by n spans keys o ≡ 0
inserted_none n spans keys o k = rw (ne_eqb o.kind 1 k, inserted_by)

-- an accepted operation of kind 1 is an insert
pub insert_only : (n : ℕ) (spans keys : List ℕ) (o : Operation) → o.kind ≡ 1 → Insert n spans keys o ⊎ Part o → Insert n spans keys o
insert_only n spans keys o k (inl i) = i
insert_only n spans keys o k (inr p) = absurd (⊎_elim (λ (e : o.kind ≡ 0). omega arith) (λ (e : o.kind ≡ 2). omega arith) p.kind)

module _ (original text spans keys : List ℕ) where
  text_from_lem : (os : List Operation) (at : ℕ) → Shapes (length text) spans keys os → Tiles (length original) os at
      → length (text_from original text spans keys os at) ≡ text_length (length text) spans keys os
  unfolding Shapes Tiles text_from total
  text_from_lem [] at s t = refl
  text_from_lem (o ∷ os) at s t =
      elim (ℕ_discrete o.kind 1) [
        | yes k ↦
            let i : Insert (length text) spans keys o = insert_only (length text) spans keys o k s.1.0 in
            let e = spelled_length text (tokens_from spans keys o.first o.count) i.tokens in
            let f = inserted_length (length text) spans keys o i in
            let g = text_from_lem os at s.1.1 (rw (eq-eqb o.kind 1 k, Tiles) at t) in
            rw (
              eq-eqb o.kind 1 k,
              text_from,
              length-append (spelled text (tokens_from spans keys o.first o.count)) (text_from original text spans keys os at),
              e,
              g,
              f,
              ne_eqb o.kind 2 (λ z. omega arith),
            ) (omega arith)
        | no k ↦
            let p : (o.order ≡ at) × ((at + o.length ≤ length original) × Tiles (length original) os (at + o.length)) = rw (ne_eqb o.kind 1 k, Tiles) at t in
            let g = text_from_lem os (at + o.length) s.1.1 p.1.1 in
            let e : length (take o.length (drop at original)) ≡ o.length = rw (length-take, length-drop) (omega (arith, p.1.0)) in
            let f = inserted_none (length text) spans keys o k in
            elim (ℕ_discrete o.kind 2) [
              | yes q ↦
                  rw (
                    ne_eqb o.kind 1 k,
                    eq-eqb o.kind 2 q,
                    text_from,
                    length-append (take o.length (drop at original)) (text_from original text spans keys os (at + o.length)),
                    e,
                    g,
                    f,
                  ) (omega arith)
              | no q ↦ rw (ne_eqb o.kind 1 k, ne_eqb o.kind 2 q, text_from, g, f) (omega arith)
            ]
      ]

  pub text_length_lem : (l : Limits) (os : List Operation) (cs : List Cursor) → AcceptedList l original text spans keys os cs
      → length (list_text original text spans keys os) ≡ text_length (length text) spans keys os
  text_length_lem l os cs a = text_from_lem os 0 a.shapes a.tiles

-- below the cap of the code's sums, and of any room
pub text_most : (l : Limits) (original text spans keys : List ℕ) (os : List Operation) (cs : List Cursor) → AcceptedList l original text spans keys os cs
    → text_length (length text) spans keys os ≤ 65535 + l.text
text_most l original text spans keys os cs a =
    omega (arith, a.original_most, a.inserted_most, retained_most (length original) os 0 a.tiles)
