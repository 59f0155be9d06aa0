-- What `fill` hands to `scan`: the table of the beginnings of new that also end a beginning of it. Assumes nothing.
use Rattle.std.specs.Prelude.{ℕ, ◌+◌, ◌-◌, ◌≤◌, ◌<◌, ◌≡◌, List, length, drop, get_or}

-- the first k of p are the last k of the first i of t. Place a of p goes with place b of t, where i + a ≡ b + k
pub record Ends (p t : List ℕ) (i k : ℕ) : Type 0 where
  pub low : k ≤ i
  pub same : (a b : ℕ) → a < k → i + a ≡ b + k → get_or t b 0 ≡ get_or p a 0

-- k is the greatest such number below c
pub record Best (p t : List ℕ) (c i k : ℕ) : Type 0 where
  pub ends : Ends p t i k
  pub under : k < c
  pub most : (l : ℕ) → l < c → Ends p t i l → l ≤ k

-- the table w has, for each of the first n beginnings of p, the greatest that ends it and is shorter
pub record Table (p w : List ℕ) (n : ℕ) : Type 0 where
  pub at : (j : ℕ) → 0 < j → j ≤ n → Best p p j j (get_or w (j - 1) 0)

-- new has a table in this room: "insert tokens 8,192 a list for merging", as for the call alone
pub record Fits (new room : List ℕ) : Type 0 where
  pub long : length new ≤ length room
  pub most : length new ≤ 8192

-- the room holds new's table, and past new's length what it held
pub record Filled (new before after : List ℕ) : Type 0 where
  pub table : Table new after (length new)
  pub kept : drop (length new) after ≡ drop (length new) before
