-- Shown: the loop that puts a side's cursors into the room, what it keeps, one turn, and the ways out; and what goes is what moves with an operation, or goes to the end.
-- How: the cursors put so far, with those that are still to go, are all that go. The room grows by one at each turn.
use Rattle.std.specs.Prelude.{Option, Some, None}
use mathlib.Core.Bool.{Bool, true, false}
use lib.Dec.{leb}
use Prim.Native.Nat.{ℕ, ◌+◌, ◌-◌, ◌*◌, ◌/◌, ◌≤◌, ◌<◌}
use mathlib.Core.Path.{◌≡◌, refl, sym, ◌∙◌, ap}
use mathlib.Core.List.{List, [], ◌∷◌, ◌++◌, append_assoc, append-nil}
use native.Mathlib.Omega.{arith}
use lib.ListN.{length, length-append}
use Rattle.room.specs.Placed.{answered}
use Rattle.records.specs.declared.Cursor.{Cursor}
use Rattle.records.specs.Cursors.{cursor_at, cursors_from, flat_cursors, at_index, put_cursor}
use Rattle.records.proofs.CursorLaws.{from_more, from_none, length_put, put_answered}
use Rattle.merging.specs.declared.Shift.{Shift}
use Rattle.merging.specs.Cursors.{moved_index, moved, behind, ended}
use Rattle.cursor_position.specs.declared.Progress.{Progress}
use Rattle.cursor_position.specs.Moves.{gone, stayed, left_of, Went}

-- of the cursors `all`, which go into the room d from j on, `rest` are still to go; n of a side's m cursors are passed
pub record Going (m : ℕ) (all : List Cursor) (d : List ℕ) (i j : ℕ) (rest : List Cursor) (o : List ℕ) (n k : ℕ) : Type 0 where
  pub done : List Cursor
  pub same : length o ≡ length d
  pub next : n ≡ i + length done
  pub count : k ≡ j + length done
  pub space : k + (m - n) ≡ j + (m - i)
  pub split : done ++ rest ≡ all
  pub grows : (cs : List Cursor) (d₀ : List ℕ) → j ≡ length cs → d ≡ answered (flat_cursors cs) d₀ → o ≡ answered (flat_cursors (cs ++ done)) d₀

pub going_none : (m : ℕ) (all : List Cursor) (d : List ℕ) (i j : ℕ) → Going m all d i j all d i j
going_none m all d i j =
    record {
      done = [];
      same = refl;
      next = omega arith;
      count = omega arith;
      space = refl;
      split = refl;
      grows = λ cs d₀ ej ed. rw (append-nil cs) ed;
    }

module _ {m : ℕ} {all : List Cursor} {d : List ℕ} {i j : ℕ} {rest : List Cursor} {o : List ℕ} {n k : ℕ} (g : Going m all d i j rest o n k) where
  pub going_more : (e : Cursor) (left : List Cursor) (o' : List ℕ) → rest ≡ e ∷ left → (j + (m - i)) * 2 ≤ length d → n < m → o' ≡ put_cursor o k e
      → Going m all d i j left o' (n + 1) (k + 1)
  going_more e left o' er l h eo =
      let q : length (g.done ++ (e ∷ [])) ≡ length g.done + 1 = length-append g.done (e ∷ []) in
      record {
        done = g.done ++ (e ∷ []);
        same = rw eo (length_put o k e ∙ g.same);
        next = omega (arith, g.next);
        count = omega (arith, g.count);
        space = omega (arith, g.space);
        split = append_assoc g.done (e ∷ []) left ∙ (ap (λ (r : List Cursor). g.done ++ r) (sym er) ∙ g.split);
        grows = λ cs d₀ ej ed.
            eo
            ∙ (put_answered (cs ++ g.done) e d₀ o k (rw (length-append) (omega (arith, g.count))) (g.grows cs d₀ ej ed)
            (omega (arith, g.space, g.same))
            ∙ ap (λ (r : List Cursor). answered (flat_cursors r) d₀) (append_assoc cs g.done (e ∷ [])));
      }

  -- none are left to go
  pub going_out : (xs : List ℕ) (bs : List Cursor) → rest ≡ [] → m ≡ length xs / 2 → cursors_from xs n (m - n) ≡ bs
      → Went xs all bs d o (record { next = i; count = j }) (record { next = n; count = k })
  going_out xs bs er em eb =
      let s : g.done ≡ all = sym (append-nil g.done) ∙ (ap (λ (r : List Cursor). g.done ++ r) (sym er) ∙ g.split) in
      let z : length g.done ≡ length all = ap length s in
      record {
        next = omega (arith, g.next);
        count = omega (arith, g.count);
        left = rw (← em) eb;
        space = omega (arith, g.space);
        grows = λ cs d₀ ej ed. rw (← s) (g.grows cs d₀ ej ed);
      }

-- no cursor goes
pub went_none : (xs d : List ℕ) (p : Progress) → Went xs [] (left_of xs p) d d p p
went_none xs d p =
    record {
      next = omega arith;
      count = omega arith;
      left = refl;
      space = refl;
      grows = λ cs d₀ ej ed. rw (append-nil cs) ed;
    }

-- one cursor that goes, and one that does not
module _ (f : ℕ → Option ℕ) (c : Cursor) (cs : List Cursor) where
  gone_on : (v : ℕ) → Some v ≡ f c.index → gone f (c ∷ cs) ≡ at_index c v ∷ gone f cs
  unfolding gone
  gone_on v e = ap (λ (x : Option ℕ). elim x as (λ _. List Cursor) [ Some i ↦ at_index c i ∷ gone f cs | None ↦ [] ]) (sym e)

  stayed_on : (v : ℕ) → Some v ≡ f c.index → stayed f (c ∷ cs) ≡ stayed f cs
  unfolding stayed
  stayed_on v e = ap (λ (x : Option ℕ). elim x as (λ _. List Cursor) [ Some i ↦ stayed f cs | None ↦ c ∷ cs ]) (sym e)

  gone_out : None ≡ f c.index → gone f (c ∷ cs) ≡ []
  unfolding gone
  gone_out e = ap (λ (x : Option ℕ). elim x as (λ _. List Cursor) [ Some i ↦ at_index c i ∷ gone f cs | None ↦ [] ]) (sym e)

  stayed_out : None ≡ f c.index → stayed f (c ∷ cs) ≡ c ∷ cs
  unfolding stayed
  stayed_out e = ap (λ (x : Option ℕ). elim x as (λ _. List Cursor) [ Some i ↦ stayed f cs | None ↦ c ∷ cs ]) (sym e)

-- the same cursors, told otherwise
pub went_as : {xs d o : List ℕ} {as' bs ms ns : List Cursor} {p r : Progress} → Went xs as' bs d o p r → as' ≡ ms → bs ≡ ns → Went xs ms ns d o p r
went_as w e h = rw (← e, ← h) w

-- the loop that puts cursors
pub record Moving (f : ℕ → Option ℕ) (xs : List ℕ) (m : ℕ) (d : List ℕ) (i j : ℕ) (o : List ℕ) (n k : ℕ) : Type 0 where
  pub going : Going m (gone f (cursors_from xs i (m - i))) d i j (gone f (cursors_from xs n (m - n))) o n k
  pub stays : stayed f (cursors_from xs n (m - n)) ≡ stayed f (cursors_from xs i (m - i))

pub moving_none : (f : ℕ → Option ℕ) (xs : List ℕ) (m : ℕ) (d : List ℕ) (i j : ℕ) → Moving f xs m d i j d i j
moving_none f xs m d i j = record { going = going_none m _ d i j; stays = refl }

module _ {f : ℕ → Option ℕ} {xs : List ℕ} {m : ℕ} {d : List ℕ} {i j : ℕ} {o : List ℕ} {n k : ℕ} (g : Moving f xs m d i j o n k) where
  pub moving_more : (c e : Cursor) (v : ℕ) (o' : List ℕ) → (j + (m - i)) * 2 ≤ length d → n < m → c ≡ cursor_at xs n
      → Some v ≡ f c.index → e ≡ at_index c v → o' ≡ put_cursor o k e → Moving f xs m d i j o' (n + 1) (k + 1)
  moving_more c e v o' l h ec ev ee eo =
      let cs : List Cursor = cursors_from xs (n + 1) (m - (n + 1)) in
      let s : gone f (cursors_from xs n (m - n)) ≡ e ∷ gone f cs = rw (from_more xs n m h, ← ec, gone_on f c cs v ev, ← ee) in
      let b : stayed f (cursors_from xs n (m - n)) ≡ stayed f cs = rw (from_more xs n m h, ← ec, stayed_on f c cs v ev) in
      record { going = going_more g.going e (gone f cs) o' s l h eo; stays = sym b ∙ g.stays }

  pub moving_all : m ≡ length xs / 2 → m ≤ n
      → Went xs (gone f (cursors_from xs i (m - i))) (stayed f (cursors_from xs i (m - i))) d o (record { next = i; count = j })
      (record { next = n; count = k })
  unfolding gone stayed
  moving_all em h =
      let z : cursors_from xs n (m - n) ≡ [] = from_none xs n m h in
      going_out g.going xs _ (rw z) em (z ∙ (rw z at g.stays))

  pub moving_out : (c : Cursor) → m ≡ length xs / 2 → n < m → c ≡ cursor_at xs n → None ≡ f c.index
      → Went xs (gone f (cursors_from xs i (m - i))) (stayed f (cursors_from xs i (m - i))) d o (record { next = i; count = j })
      (record { next = n; count = k })
  moving_out c em h ec e =
      let cs : List Cursor = cursors_from xs (n + 1) (m - (n + 1)) in
      let z : cursors_from xs n (m - n) ≡ c ∷ cs = rw (from_more xs n m h, ← ec) in
      going_out g.going xs _ (rw z (gone_out f c cs e)) em (z ∙ (sym (stayed_out f c cs e) ∙ (rw z at g.stays)))

-- how cursors move with an operation
abbrev pub moving : Shift → ℕ → Option ℕ
moving t i = elim (leb i (t.seen + t.length)) [ true ↦ Some (moved_index t i) | false ↦ None ]

pub moved_is : (t : Shift) (cs : List Cursor) → gone (moving t) cs ≡ moved t cs
unfolding gone moved
moved_is t [] = refl
moved_is t (c ∷ cs) = go (moved_is t cs) (leb c.index (t.seen + t.length))
  where
    go : gone (moving t) cs ≡ moved t cs → (b : Bool)
        → elim (elim b as (λ _. Option ℕ) [ true ↦ Some (moved_index t c.index) | false ↦ None ]) as (λ _. List Cursor) [ Some i ↦ at_index c i ∷ gone (moving t) cs | None ↦ [] ]
        ≡ elim b [ true ↦ at_index c (moved_index t c.index) ∷ moved t cs | false ↦ [] ]
    go h true = ap (λ (r : List Cursor). at_index c (moved_index t c.index) ∷ r) h
    go h false = refl

pub behind_is : (t : Shift) (cs : List Cursor) → stayed (moving t) cs ≡ behind t cs
unfolding stayed behind
behind_is t [] = refl
behind_is t (c ∷ cs) = go (behind_is t cs) (leb c.index (t.seen + t.length))
  where
    go : stayed (moving t) cs ≡ behind t cs → (b : Bool)
        → elim (elim b as (λ _. Option ℕ) [ true ↦ Some (moved_index t c.index) | false ↦ None ]) as (λ _. List Cursor) [ Some i ↦ stayed (moving t) cs | None ↦ c ∷ cs ]
        ≡ elim b [ true ↦ behind t cs | false ↦ c ∷ cs ]
    go h true = h
    go h false = refl

-- how they go to the end
pub ended_is : (e : ℕ) (cs : List Cursor) → gone (λ _. Some e) cs ≡ ended e cs
unfolding gone ended
ended_is e [] = refl
ended_is e (c ∷ cs) = ap (λ (r : List Cursor). at_index c e ∷ r) (ended_is e cs)

pub none_stays : (e : ℕ) (cs : List Cursor) → stayed (λ _. Some e) cs ≡ []
unfolding stayed
none_stays e [] = refl
none_stays e (c ∷ cs) = none_stays e cs
