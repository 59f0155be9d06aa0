-- What the steps of `list_of` ask and leave: the items read, their raw list in its rooms, and that list elongated. Assumes nothing.
use Rattle.std.specs.Prelude.{ℕ, zero, suc, ◌+◌, ◌-◌, ◌*◌, ◌≤◌, ◌<◌, ◌≡◌, List, [], ◌∷◌, length, take, drop, get_or, set, replicate, ℤ}
use Rattle.room.specs.Placed.{placed, answered}
use Rattle.records.specs.Operations.{flat_operations}
use Rattle.diff.specs.declared.diff.Item.{Item as Edit}
use Rattle.diff.specs.declared.diff.Item.TheVariants.{Retain, Delete, Insert, Neither}
use Rattle.raw_lists.specs.Raws.{Piece, Run, flat_spans, flat_keys, raws_of, runs_of as runsLent}
use Rattle.raw_lists.specs.Good.{counts}
use Rattle.elongate.specs.declared.Written.{Written}
use Rattle.elongate.specs.Elongated.{pieces_length, elongated, cooked_from, all_tokens}
use Rattle.elongate.specs.Verdicts.{raw_verdict}
use Rattle.edit_format.specs.Items.{Item, texts}
use Rattle.edit_format.specs.Records.{records_of}
use Rattle.edit_format.specs.Reading.{read_file, Accepted}
use Rattle.item_records.specs.declared.Counts.{Counts}
use Rattle.edit_list.specs.declared.RawRooms.{RawRooms}
use Rattle.edit_list.specs.declared.Made.{Made}
use Rattle.edit_list.specs.Raws.{point_tokens, part_token, runs_of, items_in}
use Rattle.verdict.specs.Verdicts.{accepted}

-- "makes each added code point a joinable token keyed by itself, each keep or drop one joinable token": of an item as its record says it, with
-- the file's text from place `at` of the lent text on
unfoldable pub run_in : List ℕ → ℕ → Edit → Run
run_in text at (Retain n) = record { kind = 2; tokens = part_token n ∷ [] }
run_in text at (Delete n) = record { kind = 0; tokens = part_token n ∷ [] }
run_in text at (Insert s n) = record { kind = 1; tokens = point_tokens (at + s) (take n (drop (at + s) text)) }
run_in text at Neither = record { kind = 3; tokens = [] }

-- the same of all items
unfoldable pub runs_in : List ℕ → ℕ → List Edit → List Run
runs_in text at [] = []
runs_in text at (x ∷ xs) = run_in text at x ∷ runs_in text at xs

-- "A raw operation is a kind and its tokens": three numbers each, the tokens one after the other from place f on
unfoldable pub flat_raws : ℕ → List Run → List ℕ
flat_raws f [] = []
flat_raws f (r ∷ rs) = r.kind ∷ f ∷ length r.tokens ∷ flat_raws (f + length r.tokens) rs

-- the rooms are still those that were lent
abbrev pub SameRooms : RawRooms → RawRooms → Type 0
SameRooms old new =
    (new.raw.ghost_name ≡ old.raw.ghost_name) × (new.spans.ghost_name ≡ old.spans.ghost_name) × (new.keys.ghost_name ≡ old.keys.ghost_name)

-- tokens put at a place of their two rooms; all are joinable, so their flags need none
pub record TokensPut (ps : List Piece) (at : ℕ) (s k s' k' : List ℕ) : Type 0 where
  pub in_spans : s' ≡ placed s (at * 2) (flat_spans ps)
  pub in_keys : k' ≡ placed k at (flat_keys ps)

-- the code points of a part of the text, and the rooms reach as far as their tokens would
pub record PointsFit (text : List ℕ) (from count : ℕ) (s k : List ℕ) (at : ℕ) : Type 0 where
  pub within : from + count ≤ length text
  pub most : length text ≤ 131070
  pub in_spans : (at + count) * 2 ≤ length s
  pub in_keys : at + count ≤ length k

-- a run put as the i-th of the raw list, its tokens from place `first` on
pub record RunPut (r : Run) (i first : ℕ) (raw s k raw' s' k' : List ℕ) (next : ℕ) : Type 0 where
  pub in_raw : raw' ≡ placed raw (i * 3) (r.kind ∷ first ∷ length r.tokens ∷ [])
  pub tokens : TokensPut r.tokens first s k s' k'
  pub after : next ≡ first + length r.tokens

-- a run of a known kind, with a text that can be counted
pub record SmallRun (r : Run) : Type 0 where
  pub known : r.kind ≤ 2
  pub small : pieces_length r.tokens ≤ 131070

-- the same of each run of a list
unfoldable pub AllSmall : List Run → Type 0
AllSmall [] = Unit
AllSmall (r ∷ rs) = SmallRun r × AllSmall rs

-- the rooms reach as far as a run would
pub record RunFits (r : Run) (i first : ℕ) (raw s k : List ℕ) : Type 0 where
  pub small : SmallRun r
  pub in_raw : i * 3 + 3 ≤ length raw
  pub in_spans : (first + length r.tokens) * 2 ≤ length s
  pub in_keys : first + length r.tokens ≤ length k

-- items whose text is `lent` code points from place `at` of the lent text on
pub record ItemsLent (items : List ℤ) (count lent : ℕ) (text : List ℕ) (at : ℕ) : Type 0 where
  pub items_fit : count * 3 ≤ length items
  pub within : at + lent ≤ length text
  pub most : length text ≤ 131070

-- a raw list in its rooms
pub record Filled (rs : List Run) (raw s k raw' s' k' : List ℕ) (tokens : ℕ) : Type 0 where
  pub in_raw : raw' ≡ answered (flat_raws 0 rs) raw
  pub in_spans : s' ≡ answered (flat_spans (all_tokens rs)) s
  pub in_keys : k' ≡ answered (flat_keys (all_tokens rs)) k
  pub many : tokens ≡ length (all_tokens rs)

-- the rooms reach as far as a raw list would
pub record Fits (rs : List Run) (raw s k : List ℕ) : Type 0 where
  pub small : AllSmall rs
  pub in_raw : length rs * 3 ≤ length raw
  pub in_spans : length (all_tokens rs) * 2 ≤ length s
  pub in_keys : length (all_tokens rs) ≤ length k

-- an accepted file of at most 2,048 bytes, and rooms for its items and its text
pub record Readable (file : List ℕ) (at : ℕ) (text : List ℕ) (items : List ℤ) : Type 0 where
  pub accepted : read_file file ≡ Accepted (items_in (read_file file))
  pub short : length file ≤ 2048
  pub text_fits : at + 1024 ≤ length text
  pub items_fit : 1023 ≤ length items

-- the items in their room, and their text at its place of the lent text
pub record ItemsRead (is : List Item) (at : ℕ) (text text' : List ℕ) (items items' : List ℤ) (r : Counts) : Type 0 where
  pub text_is : text' ≡ placed text at (texts is)
  pub items_are : items' ≡ answered (records_of is) items
  pub many_items : r.items ≡ length is
  pub many_points : r.text ≡ length (texts is)

-- the same, and rooms for the raw list
pub record Makeable (file : List ℕ) (at : ℕ) (text raw s k : List ℕ) : Type 0 where
  pub accepted : read_file file ≡ Accepted (items_in (read_file file))
  pub short : length file ≤ 2048
  pub text_fits : at + 1024 ≤ length text
  pub most : length text ≤ 131070
  pub in_raw : 1023 ≤ length raw
  pub in_spans : 2048 ≤ length s
  pub in_keys : 1024 ≤ length k

-- the raw list of the items in its rooms, and their text at its place
pub record RawsMade (is : List Item) (at : ℕ) (text text' raw s k raw' s' k' : List ℕ) (r : Made) : Type 0 where
  pub text_is : text' ≡ placed text at (texts is)
  pub raws : Filled (runs_of at is) raw s k raw' s' k' r.tokens
  pub many_items : r.items ≡ length is
  pub many_points : r.text ≡ length (texts is)

-- the first tokens of n operations from the i-th on, each so much further on
unfoldable pub shifted_from : List ℕ → ℕ → ℕ → ℕ → List ℕ
shifted_from o by i zero = o
shifted_from o by i (suc n) = shifted_from (set o (i * 6 + 4) (get_or o (i * 6 + 4) 0 + by)) by (i + 1) n

-- so many operations stand there, and their sums do not wrap
pub record Shiftable (o : List ℕ) (count by : ℕ) : Type 0 where
  pub fits : count * 6 ≤ length o
  pub small : (j : ℕ) → j < count → get_or o (j * 6 + 4) 0 + by < 9223372036854775808

-- "joinable": both flags of every token
abbrev pub joinable : List ℕ
joinable = replicate 1024 3

-- a raw list that is not refused, with tokens for the places from `first` on
pub record Elongable (raw s k text : List ℕ) (first : ℕ) (o s' k' : List ℕ) : Type 0 where
  pub fine : raw_verdict text s k joinable (raws_of raw) (length o) (length s' - first * 2) (length k' - first) 1024 ≡ accepted
  pub in_spans : first * 2 ≤ length s'
  pub in_keys : first ≤ length k'
  pub few : counts (raws_of raw) ≤ 1024

-- the list elongated, its tokens from place `first` on
pub record Stands (rs : List Run) (first : ℕ) (o s k o' s' k' : List ℕ) : Type 0 where
  pub operations_are : o' ≡ answered (flat_operations (cooked_from (elongated rs) 0 first)) o
  pub spans_are : s' ≡ placed s (first * 2) (flat_spans (all_tokens (elongated rs)))
  pub keys_are : k' ≡ placed k first (flat_keys (all_tokens (elongated rs)))

-- a raw list elongated, with its counts
pub record Raised (raw s k : List ℕ) (first : ℕ) (o s₀ k₀ o' s' k' : List ℕ) (r : Written) : Type 0 where
  pub stands : Stands (runsLent s k joinable (raws_of raw)) first o s₀ k₀ o' s' k'
  pub many_operations : r.operations ≡ length (elongated (runsLent s k joinable (raws_of raw)))
  pub many_tokens : r.tokens ≡ counts (raws_of raw)
