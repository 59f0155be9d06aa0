-- Shown: one invariant of the states between turns that holds at the start, is kept by every turn of either side, and gives what a turn's arithmetic asks: nothing passes the original, the lent tokens, the lists' texts or the room for remembered tokens.
-- How: the laws of one turn, put together; a turn of the right is one of the left with the sides exchanged.
use Prim.Native.Nat.{ℕ, ◌+◌, ◌≤◌}
use mathlib.Core.Path.{◌≡◌, refl, ap}
use mathlib.Core.List.{List, ◌∷◌}
use native.Mathlib.Omega.{arith}
use native.Mathlib.Decide.{dec_lt}
use borrow.Author.Tests.{lt-ltb, le-ltb}
use Rattle.records.specs.declared.Cursor.{Cursor}
use Rattle.merging.specs.declared.Op.{Op}
use Rattle.merging.specs.declared.Op.TheVariants.{Delete, Insert, Retain}
use Rattle.merging.specs.Lent.{Lent, Rules, Lawful}
use Rattle.merging.specs.Operations.{length_of, order_of, span_of}
use Rattle.merging.specs.Meeting.{front_of, tail_of, behind_cut, kept_length, nothing}
use Rattle.merging.specs.Turn.{State, turned, turn_with, turn_left}
use Rattle.merging.specs.Tiling.{Tiled, total_of, tokens_of, Inserts}
use Rattle.merging.specs.Reached.{remembered}
use Rattle.merging.proofs.OneTurn.{place_after, tiled_le, keep_less}
use Rattle.merging.proofs.Places.{back, roomed}
use Rattle.merging.proofs.Turns.{Stands, stands_start, stands_turned, stands_next, Turning}
use Rattle.merging.proofs.Count.{asked_tail}
use Rattle.merging.proofs.WorkRoom.{own_less, other_less}

-- the text that operations give
abbrev pub text_of_all : Lent → List Op → ℕ
text_of_all lent ls = total_of (length_of lent) ls

-- a state between turns of the merge of ls and rs over an original of n code points, whose sides stand at p and q of it; Q is what was asked of each insert's tokens
pub record Sound (R : Rules) (Q : ℕ → ℕ → Type 0) (ls rs : List Op) (n : ℕ) (s : State) (p q : ℕ) : Type 0 where
  pub stands : Stands s p q n
  pub place_left : back s.right.last p q ≤ s.merged
  pub place_right : back s.left.last q p ≤ s.merged
  pub seen_left : s.left.seen + text_of_all R.lent s.left.next ≡ text_of_all R.lent ls
  pub seen_right : s.right.seen + text_of_all R.lent s.right.next ≡ text_of_all R.lent rs
  pub merged_most : s.merged ≤ s.left.seen + s.right.seen
  pub inserts_left : Inserts Q s.left.next
  pub inserts_right : Inserts Q s.right.next
  pub tokens_left : remembered s.left.last + tokens_of s.left.next ≤ tokens_of ls
  pub tokens_right : remembered s.right.last + tokens_of s.right.next ≤ tokens_of rs

-- whatever the cursors are
pub sound_start : (R : Rules) (Q : ℕ → ℕ → Type 0) (ls rs : List Op) (cs ds : List Cursor) (n : ℕ) → Tiled ls 0 n → Tiled rs 0 n → Inserts Q ls → Inserts Q rs
    → Sound R Q ls rs n
    (record {
      left = record { next = ls; last = nothing; seen = 0; cursors = cs };
      right = record { next = rs; last = nothing; seen = 0; cursors = ds };
      merged = 0;
      consumed = 0;
    }) 0 0
sound_start R Q ls rs cs ds n tx ty ix iy =
    record {
      stands = record { good = (stands_start ls rs cs ds n tx ty).good; at = refl };
      place_left = omega arith;
      place_right = omega arith;
      seen_left = omega arith;
      seen_right = omega arith;
      merged_most = omega arith;
      inserts_left = ix;
      inserts_right = iy;
      tokens_left = omega arith;
      tokens_right = omega arith;
    }

-- with the sides exchanged
pub sound_turned : {R : Rules} {Q : ℕ → ℕ → Type 0} {ls rs : List Op} {n : ℕ} {s : State} {p q : ℕ} → Sound R Q ls rs n s p q → Sound R Q rs ls n (turned s) q p
sound_turned {n = n} {s = s} {p = p} {q = q} g =
    record {
      stands = stands_turned s p q n g.stands;
      place_left = g.place_right;
      place_right = g.place_left;
      seen_left = g.seen_right;
      seen_right = g.seen_left;
      merged_most = omega (arith, g.merged_most);
      inserts_left = g.inserts_right;
      inserts_right = g.inserts_left;
      tokens_left = g.tokens_right;
      tokens_right = g.tokens_left;
    }

behind_text : (lent : Lent) (o l k : ℕ) (ls : List Op) → k ≤ l → k + text_of_all lent (behind_cut o l k ls) ≡ l + text_of_all lent ls
unfolding total_of behind_cut
behind_text lent o l k ls h =
    elim (dec_lt k l) [ yes z ↦ rw (lt-ltb k l z, behind_cut) (omega arith) | no z ↦ rw (le-ltb k l (omega arith), behind_cut) (omega arith) ]

-- what is taken of a list and what stays next are its text
front_tail : (lent : Lent) (a : Op) (rs ls : List Op) → length_of lent (front_of a rs) + text_of_all lent (tail_of a rs ls) ≡ text_of_all lent (a ∷ ls)
unfolding total_of
front_tail lent (Delete o l) rs ls = omega arith
front_tail lent (Insert o f k) rs ls = refl
front_tail lent (Retain o l) rs ls = behind_text lent o l (kept_length o l rs) ls (keep_less o l rs)

-- a turn of the left side; one of the right is one of the left with the sides exchanged
pub sound_next : {R : Rules} {Q : ℕ → ℕ → Type 0} {ls rs : List Op} {n : ℕ} {s : State} {p q : ℕ} → Lawful R → Sound R Q ls rs n s p q → (side : ℕ) (a : Op) (xs : List Op)
    → Turning s a xs p q n → Sound R Q ls rs n (turn_left R side a xs s).state (place_after a s.right.next) q
unfolding turn_left turn_with
sound_next {R} {Q} {ls} {rs} {n} {s} {p} {q} law g side a xs t =
    let ys : List Op = s.right.next in
    let r =
    roomed R law a s.left.last xs s.right.last ys p q n t.good t.le s.merged 0 0 (omega (arith, g.place_left)) (omega (arith, g.place_right))
    in
    let lt : text_of_all R.lent s.left.next ≡ text_of_all R.lent (a ∷ xs) = ap (text_of_all R.lent) t.next in
    let lk : tokens_of s.left.next ≡ tokens_of (a ∷ xs) = ap tokens_of t.next in
    record {
      stands = stands_next R side s a xs p q n t;
      place_left = omega (arith, r.own);
      place_right = omega (arith, r.other);
      seen_left = omega (arith, front_tail R.lent a ys xs, g.seen_left);
      seen_right = g.seen_right;
      merged_most = omega (arith, r.rest, g.merged_most);
      inserts_left = asked_tail Q a xs ys (rw t.next at g.inserts_left);
      inserts_right = g.inserts_right;
      tokens_left = omega (arith, own_less R s.left.last s.right.last a xs ys, g.tokens_left);
      tokens_right = omega (arith, other_less R (front_of a ys) s.right.last, g.tokens_right);
    }

-- where the operations of a list that tiles the original end
pub next_within : (a : Op) (xs : List Op) (p n : ℕ) → Tiled (a ∷ xs) p n → order_of a + span_of a ≤ n
next_within (Delete o l) xs p n t = tiled_le xs (o + l) n t.2
next_within (Insert o f k) xs p n t = omega (arith, t.0, tiled_le xs p n t.2)
next_within (Retain o l) xs p n t = tiled_le xs (o + l) n t.2
