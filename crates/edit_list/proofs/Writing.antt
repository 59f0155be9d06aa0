-- Shown: what the steps that write the raw list leave: a token, the tokens of a text, a run, and all runs.
-- How: each room with what is still to be put into it is the answer. Assumes nothing.
use mathlib.Core.Path.{◌≡◌, refl, sym, ap, ◌∙◌}
use mathlib.Core.List.{List, [], ◌∷◌, ◌++◌}
use Prim.Native.Nat.{ℕ, suc, ◌+◌, ◌-◌, ◌*◌, ◌≤◌, ◌<◌, zero-le}
use native.Mathlib.Omega.{arith}
use lib.ListN.{length, take, drop, get_or, length-append, length-drop, length-take}
use lib.Seq.{drop-cons, length-take-le, get_or-take, get_or-drop}
use lib.IntN.{ℤ}
use Rattle.room.specs.Placed.{placed, answered}
use Rattle.room.proofs.Answers.{at_start}
use Rattle.diff.specs.declared.diff.Item.{Item as Edit}
use Rattle.diff.specs.declared.diff.Item.TheVariants.{Retain, Delete, Insert, Neither}
use Rattle.diff.specs.Items.{item_at, items_from}
use Rattle.diff.proofs.Decoding.{items_more, items_none, insert_within}
use Rattle.raw_lists.specs.Raws.{Piece, Run, flat_spans, flat_keys}
use Rattle.raw_lists.proofs.Pieces.{length_spans, length_keys, spans_append, keys_append}
use Rattle.elongate.specs.Elongated.{pieces_length, all_tokens}
use Rattle.room.proofs.Placing.{placed_none, placed_length}
use Rattle.elongate.proofs.Placing.{goes_on}
use Rattle.edit_list.specs.Raws.{point_tokens, part_token}
use Rattle.edit_list.specs.Steps.{run_in, runs_in, flat_raws, TokensPut, PointsFit, RunPut, SmallRun, AllSmall, RunFits, ItemsLent, Filled, Fits}
use Rattle.edit_list.proofs.Runs.{points_length}

pub token_put : {s k s' k' : List ℕ} {i : ℕ} (p : Piece) → s' ≡ placed s (i * 2) (p.start ∷ p.length ∷ []) → k' ≡ placed k i (p.key ∷ []) → TokensPut (p ∷ []) i s k s' k'
unfolding flat_spans flat_keys
token_put p e f = record { in_spans = e; in_keys = f }

-- the tokens ps are still to be put at `here`; with them the rooms are the first ones with the tokens qs at `at`
pub record Putting (ps : List Piece) (here : ℕ) (qs : List Piece) (at : ℕ) (s₀ k₀ s k : List ℕ) : Type 0 where
  pub same_spans : length s ≡ length s₀
  pub same_keys : length k ≡ length k₀
  pub fits_spans : (here + length ps) * 2 ≤ length s
  pub fits_keys : here + length ps ≤ length k
  pub whole_spans : placed s (here * 2) (flat_spans ps) ≡ placed s₀ (at * 2) (flat_spans qs)
  pub whole_keys : placed k here (flat_keys ps) ≡ placed k₀ at (flat_keys qs)

pub putting_begins : (qs : List Piece) (at : ℕ) (s k : List ℕ) → (at + length qs) * 2 ≤ length s → at + length qs ≤ length k → Putting qs at qs at s k s k
putting_begins qs at s k h l = record { same_spans = refl; same_keys = refl; fits_spans = h; fits_keys = l; whole_spans = refl; whole_keys = refl }

pub putting_on : (ps rest : List Piece) (here : ℕ) (qs : List Piece) (at : ℕ) (s₀ k₀ s k s' k' : List ℕ) → Putting (ps ++ rest) here qs at s₀ k₀ s k
    → TokensPut ps here s k s' k' → Putting rest (here + length ps) qs at s₀ k₀ s' k'
putting_on ps rest here qs at s₀ k₀ s k s' k' h t =
    let l = length-append ps rest in
    let ls = length_spans ps in
    let lk = length_keys ps in
    let fs : here * 2 + length (flat_spans ps) ≤ length s = omega (arith, l, ls, h.fits_spans) in
    let fk : here + length (flat_keys ps) ≤ length k = omega (arith, l, lk, h.fits_keys) in
    let es : length s' ≡ length s = ap length t.in_spans ∙ placed_length s (here * 2) (flat_spans ps) fs in
    let ek : length k' ≡ length k = ap length t.in_keys ∙ placed_length k here (flat_keys ps) fk in
    record {
      same_spans = es ∙ h.same_spans;
      same_keys = ek ∙ h.same_keys;
      fits_spans = omega (arith, l, es, h.fits_spans);
      fits_keys = omega (arith, l, ek, h.fits_keys);
      whole_spans = goes_on s s' (flat_spans ps) (flat_spans rest) (placed s₀ (at * 2) (flat_spans qs)) (here * 2) ((here + length ps) * 2)
          t.in_spans (omega (arith, ls)) fs
          (rw (spans_append ps rest) at h.whole_spans);
      whole_keys = goes_on k k' (flat_keys ps) (flat_keys rest) (placed k₀ at (flat_keys qs)) here (here + length ps) t.in_keys (omega (arith, lk)) fk
          (rw (keys_append ps rest) at h.whole_keys);
    }

-- the same tokens at the same place
as_putting : {ps : List Piece} {here : ℕ} (ps' : List Piece) (here' : ℕ) {qs : List Piece} {at : ℕ} {s₀ k₀ s k : List ℕ} → ps' ≡ ps → here' ≡ here
    → Putting ps here qs at s₀ k₀ s k
    → Putting ps' here' qs at s₀ k₀ s k
as_putting ps' here' e f h = rw (e, f) h

pub putting_ends : (here : ℕ) (qs : List Piece) (at : ℕ) (s₀ k₀ s k : List ℕ) → Putting [] here qs at s₀ k₀ s k → TokensPut qs at s₀ k₀ s k
unfolding flat_spans flat_keys
putting_ends here qs at s₀ k₀ s k h =
    record { in_spans = sym (placed_none s (here * 2)) ∙ h.whole_spans; in_keys = sym (placed_none k here) ∙ h.whole_keys }

-- the tokens of a part of the text: those of the code points from the j-th on

abbrev pub points_left : List ℕ → ℕ → ℕ → ℕ → List Piece
points_left text from count j = point_tokens (from + j) (take (count - j) (drop (from + j) text))

pub part_length : (text : List ℕ) (from count : ℕ) → from + count ≤ length text → length (point_tokens from (take count (drop from text))) ≡ count
part_length text from count h = points_length from (take count (drop from text)) ∙ length-take-le count (drop from text) (omega (arith, length-drop from text))

left_all : (text : List ℕ) (from count : ℕ) → points_left text from count 0 ≡ point_tokens from (take count (drop from text))
left_all text from count =
    let e : from + 0 ≡ from = omega arith in
    let f : count - 0 ≡ count = omega arith in
    ap (λ (x : ℕ). point_tokens x (take (count - 0) (drop x text))) e ∙ ap (λ (x : ℕ). point_tokens from (take x (drop from text))) f

left_more : (text : List ℕ) (from count j : ℕ) → j < count → from + count ≤ length text
    → points_left text from count j ≡ record { start = from + j; length = 1; key = get_or text (from + j) 0; joins = 3 } ∷ points_left text from count (j + 1)
unfolding point_tokens
left_more text from count j h l =
    let e : count - j ≡ suc (count - (j + 1)) = omega arith in
    let f : suc (from + j) ≡ from + (j + 1) = omega arith in
    let g : from + j + 1 ≡ from + (j + 1) = omega arith in
    rw (e, drop-cons text (from + j) 0 (omega arith), f, g)

-- a part of the text as it is lent: so many code points, each that of its place
pub part_count : (text : List ℕ) (from count : ℕ) → from + count ≤ length text → length (take (from + count - from) (drop from text)) ≡ count
part_count text from count f = omega (arith, length-take (from + count - from) (drop from text), length-drop from text)

pub part_point : (text : List ℕ) (from count j : ℕ) → j < count → get_or (take (from + count - from) (drop from text)) j 0 ≡ get_or text (from + j) 0
part_point text from count j l = get_or-take (from + count - from) (drop from text) j 0 (omega arith) ∙ get_or-drop from text j 0

pub record Pointing (text : List ℕ) (from count at : ℕ) (s₀ k₀ s k : List ℕ) (j : ℕ) : Type 0 where
  pub most : j ≤ count
  pub puts : Putting (points_left text from count j) (at + j) (point_tokens from (take count (drop from text))) at s₀ k₀ s k

pub points_begin : (text : List ℕ) (from count at : ℕ) (s k : List ℕ) → PointsFit text from count s k at → Pointing text from count at s k s k 0
points_begin text from count at s k f =
    let l = part_length text from count f.within in
    record {
      most = zero-le;
      puts = as_putting (points_left text from count 0) (at + 0) (left_all text from count) (omega arith)
          (putting_begins (point_tokens from (take count (drop from text))) at s k (omega (arith, l, f.in_spans)) (omega (arith, l, f.in_keys)));
    }

module _ {text : List ℕ} {from count at : ℕ} {s₀ k₀ s k : List ℕ} {j : ℕ} (f : from + count ≤ length text) (h : Pointing text from count at s₀ k₀ s k j) where
  next_puts : j < count
      → Putting (record { start = from + j; length = 1; key = get_or text (from + j) 0; joins = 3 } ∷ points_left text from count (j + 1)) (at + j)
      (point_tokens from (take count (drop from text))) at s₀ k₀ s k
  next_puts l = rw (left_more text from count j l f) at h.puts

  pub next_fits : j < count → ((at + j) * 2 + 2 ≤ length s) × (at + j + 1 ≤ length k)
  next_fits l = (omega (arith, (next_puts l).fits_spans), omega (arith, (next_puts l).fits_keys))

  pub points_on : {s' k' : List ℕ} {x : ℕ} → j < count → x ≡ get_or text (from + j) 0
      → TokensPut (record { start = from + j; length = 1; key = x; joins = 3 } ∷ []) (at + j) s k s' k' → Pointing text from count at s₀ k₀ s' k' (j + 1)
  points_on {s'} {k'} l e t₀ =
      let t = rw e at t₀ in
      let p : Piece = record { start = from + j; length = 1; key = get_or text (from + j) 0; joins = 3 } in
      let q = putting_on (p ∷ []) (points_left text from count (j + 1)) (at + j) (point_tokens from (take count (drop from text))) at s₀ k₀ s k s' k' (next_puts l) t in
      record { most = omega arith; puts = as_putting (points_left text from count (j + 1)) (at + (j + 1)) refl (omega arith) q }

  pub points_end : count ≤ j → TokensPut (point_tokens from (take count (drop from text))) at s₀ k₀ s k
  unfolding point_tokens
  points_end l = let e : count - j ≡ 0 = omega arith in putting_ends (at + j) (point_tokens from (take count (drop from text))) at s₀ k₀ s k (rw e at h.puts)

-- a run of each kind

pub part_small : {kind n : ℕ} → SmallRun (record { kind = kind; tokens = part_token n ∷ [] }) → n ≤ 131070
unfolding pieces_length
part_small s = omega (arith, s.small)

pub retain_run : (text : List ℕ) (at n : ℕ) (x : Edit) → x ≡ Retain n → run_in text at x ≡ record { kind = 2; tokens = part_token n ∷ [] }
unfolding run_in
retain_run text at n x e = rw e

pub delete_run : (text : List ℕ) (at n : ℕ) (x : Edit) → x ≡ Delete n → run_in text at x ≡ record { kind = 0; tokens = part_token n ∷ [] }
unfolding run_in
delete_run text at n x e = rw e

pub insert_run : (text : List ℕ) (at a n : ℕ) (x : Edit) → x ≡ Insert a n → run_in text at x ≡ record
    { kind = 1; tokens = point_tokens (at + a) (take n (drop (at + a) text)) }
unfolding run_in
insert_run text at a n x e = rw e

pub no_run : (text : List ℕ) (at i first : ℕ) (x : Edit) (raw s k : List ℕ) → x ≡ Neither → RunFits (run_in text at x) i first raw s k → ⊥
unfolding run_in
no_run text at i first x raw s k e f = let g : 3 ≤ 2 = rw e at f.small.known in omega arith

module _ (items : List ℤ) (i lent : ℕ) (text : List ℕ) (at first a n : ℕ) (raw s k : List ℕ) (l : ItemsLent items (i + 1) lent text at)
    (f : RunFits (run_in text at (item_at items lent i)) i first raw s k) (e : item_at items lent i ≡ Insert a n) where
  pub insert_in : at + a + n ≤ length text
  insert_in = omega (arith, insert_within items lent i e, l.within)

  pub insert_fits : PointsFit text (at + a) n s k first
  insert_fits =
      let g : RunFits (record { kind = 1; tokens = point_tokens (at + a) (take n (drop (at + a) text)) }) i first raw s k = rw
      (insert_run text at a n (item_at items lent i) e) at f in
      let m = part_length text (at + a) n insert_in in
      record { within = insert_in; most = l.most; in_spans = omega (arith, g.in_spans, m); in_keys = omega (arith, g.in_keys, m) }

  pub insert_puts : {raw' s' k' : List ℕ} → raw' ≡ placed raw (i * 3) (1 ∷ first ∷ n ∷ []) → TokensPut
      (point_tokens (at + a) (take n (drop (at + a) text))) first s k s' k'
      → RunPut (run_in text at (item_at items lent i)) i first raw s k raw' s' k' (first + n)
  insert_puts r t =
      let m = part_length text (at + a) n insert_in in
      rw (insert_run text at a n (item_at items lent i) e) (record { in_raw = rw m r; tokens = t; after = rw m })

-- all runs: rs is still to be put, as the i-th and the following, with its tokens from `tokens` on
pub record Filling (rs all : List Run) (raw₀ s₀ k₀ raw s k : List ℕ) (i tokens : ℕ) : Type 0 where
  pub small : AllSmall rs
  pub same_raw : length raw ≡ length raw₀
  pub fits_raw : (i + length rs) * 3 ≤ length raw
  pub whole_raw : placed raw (i * 3) (flat_raws tokens rs) ≡ answered (flat_raws 0 all) raw₀
  pub puts : Putting (all_tokens rs) tokens (all_tokens all) 0 s₀ k₀ s k
  pub many : tokens + length (all_tokens rs) ≡ length (all_tokens all)

filling_begins : (rs : List Run) (raw s k : List ℕ) → Fits rs raw s k → Filling rs rs raw s k raw s k 0 0
filling_begins rs raw s k f = record {
  small = f.small;
  same_raw = refl;
  fits_raw = omega (arith, f.in_raw);
  whole_raw = at_start (flat_raws 0 rs) raw;
  puts = putting_begins (all_tokens rs) 0 s k (omega (arith, f.in_spans)) (omega (arith, f.in_keys));
  many = omega arith;
}

module _ {r : Run} {rs all : List Run} {raw₀ s₀ k₀ raw s k : List ℕ} {i tokens : ℕ} (h : Filling (r ∷ rs) all raw₀ s₀ k₀ raw s k i tokens) where
  run_fits : RunFits r i tokens raw s k
  unfolding AllSmall all_tokens
  run_fits =
      let l = length-append r.tokens (all_tokens rs) in
      record {
        small = h.small.0;
        in_raw = omega (arith, h.fits_raw);
        in_spans = omega (arith, l, h.puts.fits_spans);
        in_keys = omega
            (arith, l, h.puts.fits_keys);
      }

  filling_on : {raw' s' k' : List ℕ} {n : ℕ} → RunPut r i tokens raw s k raw' s' k' n → Filling rs all raw₀ s₀ k₀ raw' s' k' (i + 1) n
  unfolding AllSmall all_tokens flat_raws
  filling_on {raw'} {s'} {k'} {n} p =
      let l = length-append r.tokens (all_tokens rs) in
      let three : List ℕ = r.kind ∷ tokens ∷ length r.tokens ∷ [] in
      let e : length raw' ≡ length raw = ap length p.in_raw ∙ placed_length raw (i * 3) three (omega (arith, h.fits_raw)) in
      let w = goes_on raw raw' three (flat_raws (tokens + length r.tokens) rs) (answered (flat_raws 0 all) raw₀) (i * 3) ((i + 1) * 3) p.in_raw
      (omega arith) (omega (arith, h.fits_raw)) h.whole_raw in
      record {
        small = h.small.1;
        same_raw = e ∙ h.same_raw;
        fits_raw = omega (arith, e, h.fits_raw);
        whole_raw = rw p.after w;
        puts = rw p.after (putting_on r.tokens (all_tokens rs) tokens (all_tokens all) 0 s₀ k₀ s k s' k' h.puts p.tokens);
        many = omega (arith, p.after, l, h.many);
      }

filling_ends : {all : List Run} {raw₀ s₀ k₀ raw s k : List ℕ} {i tokens : ℕ} → Filling [] all raw₀ s₀ k₀ raw s k i tokens → Filled all raw₀ s₀ k₀ raw s k tokens
unfolding all_tokens flat_raws
filling_ends {all} {raw₀} {s₀} {k₀} {raw} {s} {k} {i} {tokens} h =
    let t = putting_ends tokens (all_tokens all) 0 s₀ k₀ s k h.puts in
    record {
      in_raw = sym (placed_none raw (i * 3)) ∙ h.whole_raw;
      in_spans = t.in_spans ∙ at_start (flat_spans (all_tokens all)) s₀;
      in_keys = t.in_keys ∙ at_start (flat_keys (all_tokens all)) k₀;
      many = omega (arith, h.many);
    }

-- the loop over the items

runs_more : (items : List ℤ) (lent : ℕ) (text : List ℕ) (at i count : ℕ) → i < count
    → runs_in text at (items_from items lent i (count - i)) ≡ run_in text at (item_at items lent i) ∷ runs_in text at (items_from items lent (i + 1) (count - (i + 1)))
unfolding runs_in
runs_more items lent text at i count h = rw (items_more items lent i count h)

runs_none : (items : List ℤ) (lent : ℕ) (text : List ℕ) (at i count : ℕ) → count ≤ i → runs_in text at (items_from items lent i (count - i)) ≡ []
unfolding runs_in
runs_none items lent text at i count h = rw (items_none items lent i count h)

pub record Going (items : List ℤ) (count lent : ℕ) (text : List ℕ) (at : ℕ) (raw₀ s₀ k₀ raw s k : List ℕ) (i tokens : ℕ) : Type 0 where
  pub most : i ≤ count
  pub fills : Filling (runs_in text at (items_from items lent i (count - i))) (runs_in text at (items_from items lent 0 count)) raw₀ s₀ k₀ raw s k i tokens

pub going_begins : (items : List ℤ) (count lent : ℕ) (text : List ℕ) (at : ℕ) (raw s k : List ℕ) → Fits (runs_in text at (items_from items lent 0 count)) raw s k
    → Going items count lent text at raw s k raw s k 0 0
going_begins items count lent text at raw s k f =
    let e : count - 0 ≡ count = omega arith in
    record { most = zero-le; fills = rw e (filling_begins (runs_in text at (items_from items lent 0 count)) raw s k f) }

module _ {items : List ℤ} {count lent : ℕ} {text : List ℕ} {at : ℕ} {raw₀ s₀ k₀ raw s k : List ℕ} {i tokens : ℕ}
    (h : Going items count lent text at raw₀ s₀ k₀ raw s k i tokens) where
  next_fills : i < count
      → Filling (run_in text at (item_at items lent i) ∷ runs_in text at (items_from items lent (i + 1) (count - (i + 1))))
      (runs_in text at (items_from items lent 0 count)) raw₀ s₀ k₀ raw s k i tokens
  next_fills l = rw (runs_more items lent text at i count l) at h.fills

  pub going_fits : i < count → RunFits (run_in text at (item_at items lent i)) i tokens raw s k
  going_fits l = run_fits (next_fills l)

  pub going_on : {raw' s' k' : List ℕ} {n : ℕ} → i < count → RunPut (run_in text at (item_at items lent i)) i tokens raw s k raw' s' k' n
      → Going items count lent text at raw₀ s₀ k₀ raw' s' k' (i + 1) n
  going_on l p = record { most = omega arith; fills = filling_on (next_fills l) p }

  pub going_ends : count ≤ i → Filled (runs_in text at (items_from items lent 0 count)) raw₀ s₀ k₀ raw s k tokens
  going_ends l = filling_ends (rw (runs_none items lent text at i count l) at h.fills)

pub lent_to : {items : List ℤ} {count lent : ℕ} {text : List ℕ} {at : ℕ} (i : ℕ) → ItemsLent items count lent text at → i < count → ItemsLent items (i + 1) lent text at
lent_to i l h = record { items_fit = omega (arith, l.items_fit); within = l.within; most = l.most }
