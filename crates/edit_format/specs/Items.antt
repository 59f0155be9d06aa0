-- The items of an edit file, and which of them a file can hold. Assumes nothing.
use Rattle.std.specs.Prelude.{◌≡◌, ℕ, ◌+◌, ◌≤◌, Bool, true, false, not, ◌&&◌, List, [], ◌∷◌, ◌++◌, length, leb}
use Rattle.numbers.specs.Points.{is_point}

-- "`keep=`, `drop=` or `add=`"
pub data Item : Type 0 where
  Keep : ℕ → Item
  Drop : ℕ → Item
  Add : List ℕ → Item

-- "Keep plus drop is original, keep plus added is result": the three sums
unfoldable pub kept : List Item → ℕ
kept [] = 0
kept (Keep n ∷ is) = n + kept is
kept (Drop n ∷ is) = kept is
kept (Add cs ∷ is) = kept is

-- "Keep plus drop is original": the drops
unfoldable pub dropped : List Item → ℕ
dropped [] = 0
dropped (Keep n ∷ is) = dropped is
dropped (Drop n ∷ is) = n + dropped is
dropped (Add cs ∷ is) = dropped is

-- "keep plus added is result": the added code points
unfoldable pub added : List Item → ℕ
added [] = 0
added (Keep n ∷ is) = added is
added (Drop n ∷ is) = added is
added (Add cs ∷ is) = length cs + added is

-- "keep plus added is result": all added code points, one after the other
unfoldable pub texts : List Item → List ℕ
texts [] = []
texts (Keep n ∷ is) = texts is
texts (Drop n ∷ is) = texts is
texts (Add cs ∷ is) = cs ++ texts is

-- "two keeps never follow each other": the items meant
unfoldable pub is_keep : Item → Bool
is_keep (Keep n) = true
is_keep (Drop n) = false
is_keep (Add cs) = false

-- "two keeps never follow each other": whether the last item, if any, is a keep
unfoldable pub ends_keep : List Item → Bool
unfolding is_keep
ends_keep [] = false
ends_keep (i ∷ []) = is_keep i
ends_keep (i ∷ j ∷ is) = ends_keep (j ∷ is)

-- "Code points outside refusal 4's rule only": all are code points
unfoldable pub all_points : List ℕ → Bool
all_points [] = true
all_points (c ∷ cs) = is_point c && all_points cs

-- "keep and drop are at least 1; two keeps never follow each other", "one or more code points"; k: the item before was a keep
unfoldable pub items_good : Bool → List Item → Bool
items_good k [] = true
items_good k (Keep n ∷ is) = (leb 1 n && not k) && items_good true is
items_good k (Drop n ∷ is) = leb 1 n && items_good false is
items_good k (Add cs ∷ is) = (leb 1 (length cs) && all_points cs) && items_good false is

-- "Sizes as above": "original 65,535 code points", "diff items 8,192 with 131,070 code points of text"
pub record Good (is : List Item) : Type 0 where
  pub few : length is ≤ 8192
  pub original : kept is + dropped is ≤ 65535
  pub text : added is ≤ 131070
  pub each : items_good false is ≡ true
