-- The diff of a list of operation records, as items and their text. Assumes nothing.
use Rattle.std.specs.Prelude.{List, [], ◌∷◌}
use Rattle.records.specs.declared.Operation.{Operation}
use Rattle.diff.specs.Replay.{Edit, retain, delete, insert}
use Rattle.edit_format.specs.Items.{Item, Keep, Drop, Add}
use Rattle.merging.specs.Lent.{Lent}
use Rattle.merging.specs.Operations.{ops_from}
use Rattle.merging.specs.Outputs.{to_diff}

-- "`keep=`, `drop=` or `add=`": an edit as the item that records and edit files write
unfoldable pub item_of : Edit → Item
item_of (retain n) = Keep n
item_of (delete n) = Drop n
item_of (insert s) = Add s

-- "retains positive with neighbours joined, deletes negative and never joined, inserts as text": the items of some edits, in order
unfoldable pub items_of : List Edit → List Item
items_of [] = []
items_of (e ∷ es) = item_of e ∷ items_of es

-- "to_diff: retains positive with neighbours joined, deletes negative and never joined, inserts as text.": of a list's records
unfoldable pub diff_of : Lent → List Operation → List Item
diff_of lent os = items_of (to_diff lent (ops_from 0 os))
