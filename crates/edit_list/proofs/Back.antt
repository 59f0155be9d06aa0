-- Shown: a raw list that stands in its rooms is read back as the runs that were put there.
-- How: what is left of each room begins with the numbers of the runs left; all tokens are joinable. Assumes nothing.
use mathlib.Core.Path.{◌≡◌, refl, sym, ap, ◌∙◌}
use mathlib.Core.List.{List, [], ◌∷◌, ◌++◌, append_assoc, append-nil}
use Prim.Native.Nat.{ℕ, suc, ◌+◌, ◌*◌, ◌/◌, ◌<◌}
use native.Mathlib.Omega.{arith}
use lib.ListN.{length, take, drop, get_or, length-append}
use lib.Seq.{get_or-drop, drop-drop, drop-append_seam, take_at}
use Rattle.raw_lists.specs.declared.Raw.{Raw}
use Rattle.raw_lists.specs.Raws.{Piece, Run, flat_spans, flat_keys, raws_from, raws_of, pieces_from, runs_of as runsLent}
use Rattle.raw_lists.specs.Good.{counts}
use Rattle.raw_lists.proofs.Pieces.{length_spans, length_keys, spans_append, keys_append}
use Rattle.elongate.specs.Elongated.{all_tokens}
use Rattle.edit_list.specs.Steps.{flat_raws}

pub drop_past : {A : Type 0} (a b n : ℕ) (xs s t : List A) → drop a xs ≡ s ++ t → n ≡ length s → a + n ≡ b → drop b xs ≡ t
drop_past a b n xs s t h e f = rw (← f) (sym (drop-drop n a xs) ∙ rw (h, e) (drop-append_seam s t))

-- the i-th number of what is left of a list
pub left_at : {A : Type 0} (z : A) (a i : ℕ) (xs s : List A) → drop a xs ≡ s → get_or xs (a + i) z ≡ get_or s i z
left_at z a i xs s h = sym (get_or-drop a xs i z) ∙ ap (λ (l : List _). get_or l i z) h

unfoldable pub Joins : List Piece → Type 0
Joins [] = Unit
Joins (p ∷ ps) = (p.joins ≡ 3) × Joins ps

unfoldable pub AllJoin : List Run → Type 0
AllJoin [] = Unit
AllJoin (r ∷ rs) = Joins r.tokens × AllJoin rs

pub pieces_back : (s k j : List ℕ) (ps : List Piece) (f : ℕ) (q q' : List ℕ) → drop (f * 2) s ≡ flat_spans ps ++ q → drop f k ≡ flat_keys ps ++ q' → Joins ps
    → ((i : ℕ) → i < f + length ps → get_or j i 0 ≡ 3) → pieces_from s k j f (length ps) ≡ ps
unfolding pieces_from flat_spans flat_keys Joins
pieces_back s k j [] f q q' hs hk hj g = refl
pieces_back s k j (p ∷ ps) f q q' hs hk hj g =
    let z : f * 2 + 0 ≡ f * 2 = omega arith in
    let y : f + 0 ≡ f = omega arith in
    let e0 : get_or s (f * 2) 0 ≡ p.start = rw z at (left_at 0 (f * 2) 0 s (p.start ∷ p.length ∷ flat_spans ps ++ q) hs) in
    let e1 : get_or s (f * 2 + 1) 0 ≡ p.length = left_at 0 (f * 2) 1 s (p.start ∷ p.length ∷ flat_spans ps ++ q) hs in
    let e2 : get_or k f 0 ≡ p.key = rw y at (left_at 0 f 0 k (p.key ∷ flat_keys ps ++ q') hk) in
    let e3 : get_or j f 0 ≡ p.joins = g f (omega arith) ∙ sym hj.0 in
    let a = drop_past (f * 2) ((f + 1) * 2) 2 s (p.start ∷ p.length ∷ []) (flat_spans ps ++ q) hs refl (omega arith) in
    let b = drop_past f (f + 1) 1 k (p.key ∷ []) (flat_keys ps ++ q') hk refl refl in
    let n = pieces_back s k j ps (f + 1) q q' a b hj.1 (λ i h. g i (omega arith)) in
    rw (e0, e1, e2, e3, n)

-- the raw operations of runs whose tokens stand one after the other from place f on
unfoldable pub raw_list : ℕ → List Run → List Raw
raw_list f [] = []
raw_list f (r ∷ rs) = record { kind = r.kind; first = f; count = length r.tokens } ∷ raw_list (f + length r.tokens) rs

pub runs_back : (s k j : List ℕ) (rs : List Run) (f : ℕ) (q q' : List ℕ) → drop (f * 2) s ≡ flat_spans (all_tokens rs) ++ q → drop f k ≡ flat_keys (all_tokens rs) ++ q'
    → AllJoin rs → ((i : ℕ) → i < f + length (all_tokens rs) → get_or j i 0 ≡ 3) → runsLent s k j (raw_list f rs) ≡ rs
unfolding raw_list all_tokens AllJoin runsLent
runs_back s k j [] f q q' hs hk hj g = refl
runs_back s k j (r ∷ rs) f q q' hs hk hj g =
    let ts : List Piece = r.tokens in
    let us : List Piece = all_tokens rs in
    let l : length (ts ++ us) ≡ length ts + length us = length-append ts us in
    let hs' : drop (f * 2) s ≡ flat_spans ts ++ (flat_spans us ++ q) = hs ∙ rw (spans_append ts us) (append_assoc (flat_spans ts) (flat_spans us) q) in
    let hk' : drop f k ≡ flat_keys ts ++ (flat_keys us ++ q') = hk ∙ rw (keys_append ts us) (append_assoc (flat_keys ts) (flat_keys us) q') in
    let e = pieces_back s k j ts f (flat_spans us ++ q) (flat_keys us ++ q') hs' hk' hj.0 (λ i h. g i (omega (arith, l))) in
    let a = drop_past (f * 2) ((f + length ts) * 2) (length ts * 2) s (flat_spans ts) (flat_spans us ++ q) hs' (sym (length_spans ts)) (omega arith) in
    let b = drop_past f (f + length ts) (length ts) k (flat_keys ts) (flat_keys us ++ q') hk' (sym (length_keys ts)) refl in
    let n = runs_back s k j rs (f + length ts) q q' a b hj.1 (λ i h. g i (omega (arith, l))) in
    rw (e, n)

raws_from_lem : (xs : List ℕ) (rs : List Run) (i f : ℕ) (q : List ℕ) → drop (i * 3) xs ≡ flat_raws f rs ++ q → raws_from xs i (length rs) ≡ raw_list f rs
unfolding raws_from flat_raws raw_list
raws_from_lem xs [] i f q h = refl
raws_from_lem xs (r ∷ rs) i f q h =
    let n : ℕ = length r.tokens in
    let z : i * 3 + 0 ≡ i * 3 = omega arith in
    let e0 : get_or xs (i * 3) 0 ≡ r.kind = rw z at (left_at 0 (i * 3) 0 xs (r.kind ∷ f ∷ n ∷ flat_raws (f + n) rs ++ q) h) in
    let e1 : get_or xs (i * 3 + 1) 0 ≡ f = left_at 0 (i * 3) 1 xs (r.kind ∷ f ∷ n ∷ flat_raws (f + n) rs ++ q) h in
    let e2 : get_or xs (i * 3 + 2) 0 ≡ n = left_at 0 (i * 3) 2 xs (r.kind ∷ f ∷ n ∷ flat_raws (f + n) rs ++ q) h in
    let a = drop_past (i * 3) ((i + 1) * 3) 3 xs (r.kind ∷ f ∷ n ∷ []) (flat_raws (f + n) rs ++ q) h refl (omega arith) in
    let m = raws_from_lem xs rs (i + 1) (f + n) q a in
    rw (e0, e1, e2, m)

pub length_raws : (f : ℕ) (rs : List Run) → length (flat_raws f rs) ≡ length rs * 3
unfolding flat_raws
length_raws f [] = refl
length_raws f (r ∷ rs) = omega (arith, length_raws (f + length r.tokens) rs)

pub raws_back : (rs : List Run) (e : ℕ) (d : List ℕ) → e ≡ length rs * 3 → raws_of (take e (flat_raws 0 rs ++ d)) ≡ raw_list 0 rs
unfolding raws_of
raws_back rs e d h =
    let l : length (flat_raws 0 rs) ≡ e = length_raws 0 rs ∙ sym h in
    let m : length (flat_raws 0 rs) / 3 ≡ length rs = omega (arith, length_raws 0 rs) in
    rw (take_at (flat_raws 0 rs) d e l, m) (raws_from_lem (flat_raws 0 rs) rs 0 0 [] (sym (append-nil (flat_raws 0 rs))))

pub list_length : (f : ℕ) (rs : List Run) → length (raw_list f rs) ≡ length rs
unfolding raw_list
list_length f [] = refl
list_length f (r ∷ rs) = ap suc (list_length (f + length r.tokens) rs)

pub list_counts : (f : ℕ) (rs : List Run) → counts (raw_list f rs) ≡ length (all_tokens rs)
unfolding raw_list counts all_tokens
list_counts f [] = refl
list_counts f (r ∷ rs) = omega (arith, list_counts (f + length r.tokens) rs, length-append r.tokens (all_tokens rs))
