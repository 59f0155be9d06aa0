-- What the writing of a diff asks and leaves. A diff's items do not depend on the original, so it is handed none. Assumes nothing.
use Rattle.std.specs.Prelude.{ℕ, zero, suc, ◌+◌, ◌*◌, ◌≤◌, ◌≡◌, List, [], ◌∷◌, length, ℤ}
use Rattle.room.specs.Placed.{placed, answered}
use Rattle.records.specs.declared.Operation.{Operation}
use Rattle.records.specs.Tokens.{tokens_lent, tokens_from}
use Rattle.shapes.specs.Accepted.{AllIn}
use Rattle.merging.specs.Lent.{lent_of}
use Rattle.edit_format.specs.Items.{Item, Keep, Add, added, texts}
use Rattle.edit_format.specs.Records.{record_of, records_of}
use Rattle.merging.specs.Operations.{ops_from}
use Rattle.merging.specs.Tiling.{Tiled, Inserts}
use Rattle.item_records.specs.declared.Counts.{Counts}
use Rattle.to_diff.specs.Items.{diff_of}

-- "retains positive with neighbours joined": a joined retain that is not written yet; 0 is none
unfoldable pub keeps : ℕ → List Item
keeps zero = []
keeps (suc n) = Keep (suc n) ∷ []

-- "token or range outside what was lent": not so
pub record Spells (text spans keys : List ℕ) (first count : ℕ) : Type 0 where
  pub lent : first + count ≤ tokens_lent spans keys
  pub tokens : AllIn (length text) (tokens_from spans keys first count)

-- the diff of a list, whatever the original
abbrev pub items : List ℕ → List ℕ → List ℕ → List Operation → List Item
items text spans keys os = diff_of (lent_of [] text spans keys) os

-- a list that was accepted, over an original of n code points
pub record Ready (text spans keys : List ℕ) (os : List Operation) : Type 0 where
  pub n : ℕ
  pub few : n ≤ 65535
  pub tiled : Tiled (ops_from 0 os) 0 n
  pub spells : Inserts (Spells text spans keys) (ops_from 0 os)
  pub many : length (items text spans keys os) ≤ 8192
  pub adds : added (items text spans keys os) ≤ 131070

-- the joined retain, put as the place-th item where there is one
pub record Kept (n place : ℕ) (d d' : List ℤ) (r : ℕ) : Type 0 where
  pub next : r ≡ place + length (keeps n)
  pub stands : d' ≡ placed d (place * 3) (records_of (keeps n))

-- an insert's text put at a place of its room, and its record as the place-th item
pub record Inserted (s : List ℕ) (place at : ℕ) (d d' : List ℤ) (e e' : List ℕ) (r : ℕ) : Type 0 where
  pub next : r ≡ at + length s
  pub spelt : e' ≡ placed e at s
  pub stands : d' ≡ placed d (place * 3) (record_of at (Add s))

-- how many items and code points
pub record Measures (is : List Item) (r : Counts) : Type 0 where
  pub items : r.items ≡ length is
  pub text : r.text ≡ added is

-- the rooms reach as far as the items
pub record Fits (is : List Item) (d : List ℤ) (e : List ℕ) : Type 0 where
  pub items : length is * 3 ≤ length d
  pub text : added is ≤ length e

-- what the writing leaves in both rooms, and counts
pub record Wrote (is : List Item) (d : List ℤ) (e : List ℕ) (d' : List ℤ) (e' : List ℕ) (r : Counts) : Type 0 where
  pub sizes : Measures is r
  pub items : d' ≡ answered (records_of is) d
  pub text : e' ≡ answered (texts is) e
