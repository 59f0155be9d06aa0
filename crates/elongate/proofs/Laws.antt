-- What elongating keeps and gives: each kind's tokens in their order, the text, no insert directly before a delete, at most as many operations; and elongating again changes nothing.
-- By the first operation's kind, and by the test of joining. Assumes nothing.
use Prim.Native.Nat.{ℕ, suc, ◌≤◌, ◌<◌}
use mathlib.Core.Path.{◌≡◌, refl, sym, ◌∙◌, ap}
use mathlib.Core.Bool.{Bool, true, false, ◌&&◌, not}
use mathlib.Core.Logic.{◌⊎◌, inl, inr, ⊎_elim}
use mathlib.Core.List.{List, [], ◌∷◌, ◌++◌, append_assoc}
use native.Mathlib.Omega.{arith}
use lib.ListN.{length, length-append}
use lib.Dec.{eqb}
use borrow.Author.Tests.{eq-eqb, ne_eqb, eqb-true}
use Rattle.room.proofs.Bools.{and_left}
use Rattle.raw_lists.specs.Raws.{Piece, Run}
use Rattle.elongate.specs.Elongated.{Parts, parts, together, arranged, last_right, first_left, joinable, join, joined_from, joined, elongated}
use Rattle.elongate.specs.Kept.{chosen, text_tokens, Follows, Settled}
use Rattle.elongate.proofs.Arranging.{by_kind}
use Rattle.elongate.proofs.Joining.{AllSome, joins_on, joins_apart, by_test, joined_length}

abbrev kind : Run → ℕ
kind r = r.kind

-- the first run by its kind

module _ (r : Run) (rs : List Run) where
  at_retain : r.kind ≡ 2 → parts kind (r ∷ rs) ≡ record { deletes = []; inserts = []; rest = r ∷ arranged kind rs }
  unfolding parts
  at_retain h = rw (eq-eqb r.kind 2 h, parts)

  at_delete : r.kind ≡ 0 → parts kind (r ∷ rs) ≡ record { deletes = r ∷ (parts kind rs).deletes; inserts = (parts kind rs).inserts; rest = (parts kind rs).rest }
  unfolding parts
  at_delete h = rw (ne_eqb r.kind 2 (λ e. omega arith), eq-eqb r.kind 0 h, parts)

  at_insert : (r.kind ≡ 2 → ⊥) → (r.kind ≡ 0 → ⊥) → parts kind (r ∷ rs)
      ≡ record { deletes = (parts kind rs).deletes; inserts = r ∷ (parts kind rs).inserts; rest = (parts kind rs).rest }
  unfolding parts
  at_insert h g = rw (ne_eqb r.kind 2 h, ne_eqb r.kind 0 g, parts)

-- the tokens of the kinds that pass a test

module _ (p : ℕ → Bool) where
  chosen_yes : (r : Run) (rs : List Run) → p r.kind ≡ true → chosen p (r ∷ rs) ≡ r.tokens ++ chosen p rs
  unfolding chosen
  chosen_yes r rs h = rw (h, chosen)

  chosen_no : (r : Run) (rs : List Run) → p r.kind ≡ false → chosen p (r ∷ rs) ≡ chosen p rs
  unfolding chosen
  chosen_no r rs h = rw (h, chosen)

  chosen_append : (rs ss : List Run) → chosen p (rs ++ ss) ≡ chosen p rs ++ chosen p ss
  unfolding chosen
  chosen_append [] ss = refl
  chosen_append (r ∷ rs) ss =
      by_test (p r.kind) (chosen p (r ∷ (rs ++ ss)) ≡ chosen p (r ∷ rs) ++ chosen p ss)
      (λ t. rw (chosen_yes r (rs ++ ss) t, chosen_yes r rs t, chosen_append rs ss) (sym (append_assoc r.tokens (chosen p rs) (chosen p ss))))
      (λ t. rw (chosen_no r (rs ++ ss) t, chosen_no r rs t) (chosen_append rs ss))

  -- joining keeps them: only runs of one kind join
  joined_from_lem : (c : Run) (rs : List Run) → chosen p (joined_from c rs) ≡ chosen p (c ∷ rs)
  unfolding joined_from
  joined_from_lem c [] = refl
  joined_from_lem c (r ∷ rs) =
      by_test (joinable c.kind (last_right c.tokens) r) (chosen p (joined_from c (r ∷ rs)) ≡ chosen p (c ∷ r ∷ rs))
      (λ t.
      let k : c.kind ≡ r.kind =
      eqb-true c.kind r.kind (and_left (eqb c.kind r.kind) (not (eqb c.kind 2)) (and_left (eqb c.kind r.kind && not (eqb c.kind 2)) _ t))
      in
      rw (joins_on c r rs t, joined_from_lem (join c r) rs)
      (by_test (p c.kind) (chosen p (join c r ∷ rs) ≡ chosen p (c ∷ r ∷ rs))
      (λ u. rw (chosen_yes (join c r) rs u, chosen_yes c (r ∷ rs) u, chosen_yes r rs (rw k at u)) (append_assoc c.tokens r.tokens (chosen p rs)))
      (λ u. rw (chosen_no (join c r) rs u, chosen_no c (r ∷ rs) u, chosen_no r rs (rw k at u)))))
      (λ t.
      rw (joins_apart c r rs t)
      (by_test (p c.kind) (chosen p (c ∷ joined_from r rs) ≡ chosen p (c ∷ r ∷ rs))
      (λ u. rw (chosen_yes c (joined_from r rs) u, chosen_yes c (r ∷ rs) u, joined_from_lem r rs))
      (λ u. rw (chosen_no c (joined_from r rs) u, chosen_no c (r ∷ rs) u, joined_from_lem r rs))))

  joined_keeps : (rs : List Run) → chosen p (joined rs) ≡ chosen p rs
  joined_keeps [] = refl
  joined_keeps (r ∷ rs) = joined_from_lem r rs

  front_same : (r : Run) (ss ts : List Run) → chosen p ss ≡ chosen p ts → chosen p (r ∷ ss) ≡ chosen p (r ∷ ts)
  front_same r ss ts e =
      by_test (p r.kind) (chosen p (r ∷ ss) ≡ chosen p (r ∷ ts)) (λ t. rw (chosen_yes r ss t, chosen_yes r ts t, e))
      (λ t. rw (chosen_no r ss t, chosen_no r ts t, e))

  -- arranging keeps them where the test does not pass both deletes and inserts
  deletes_none : p 0 ≡ false → (rs : List Run) → chosen p (parts kind rs).deletes ≡ []
  unfolding parts chosen
  deletes_none n [] = refl
  deletes_none n (r ∷ rs) =
      by_kind r.kind (chosen p (parts kind (r ∷ rs)).deletes ≡ [])
      (λ k. rw (at_retain r rs k))
      (λ k. rw (at_delete r rs k, chosen_no r (parts kind rs).deletes (rw k n)) (deletes_none n rs))
      (λ k j. rw (at_insert r rs k j) (deletes_none n rs))

  arranged_keeps : (p 0 ≡ false) ⊎ ((m : ℕ) → (m ≡ 2 → ⊥) → (m ≡ 0 → ⊥) → p m ≡ false) → (rs : List Run) → chosen p (arranged kind rs) ≡ chosen p rs
  unfolding parts
  arranged_keeps n [] = refl
  arranged_keeps n (r ∷ rs) =
      let q : Parts Run = parts kind rs in
      let e = arranged_keeps n rs in
      let f = chosen_append q.deletes (q.inserts ++ q.rest) in
      by_kind r.kind (chosen p (arranged kind (r ∷ rs)) ≡ chosen p (r ∷ rs)) (λ k. rw (at_retain r rs k) (front_same r (together q) rs e))
      (λ k. rw (at_delete r rs k) (front_same r (together q) rs e))
      (λ k j. rw (at_insert r rs k j, chosen_append q.deletes (r ∷ (q.inserts ++ q.rest)))
      (⊎_elim
      (λ (d : p 0 ≡ false).
      let z = deletes_none d rs in
      rw z (front_same r (q.inserts ++ q.rest) rs (sym (f ∙ rw z) ∙ e)))
      (λ (d : (m : ℕ) → (m ≡ 2 → ⊥) → (m ≡ 0 → ⊥) → p m ≡ false).
      rw (chosen_no r (q.inserts ++ q.rest) (d r.kind k j), chosen_no r rs (d r.kind k j)) (sym f ∙ e))
      n))

  -- each kind's tokens keep their order: of deletes and retains together, and of inserts and retains together
  pub keeps : (p 0 ≡ false) ⊎ ((m : ℕ) → (m ≡ 2 → ⊥) → (m ≡ 0 → ⊥) → p m ≡ false) → (rs : List Run) → chosen p (elongated rs) ≡ chosen p rs
  unfolding elongated
  keeps n rs = joined_keeps (arranged kind rs) ∙ arranged_keeps n rs

-- the text is the raw list's text
pub keeps_text : (rs : List Run) → text_tokens (elongated rs) ≡ text_tokens rs
keeps_text rs = keeps (λ k. not (eqb k 0)) (inl refl) rs

-- at most as many operations

parts_length : (rs : List Run) → length (arranged kind rs) ≡ length rs
unfolding parts
parts_length [] = refl
parts_length (r ∷ rs) =
    let q : Parts Run = parts kind rs in
    let e = parts_length rs in
    let f = length-append q.deletes (q.inserts ++ q.rest) in
    by_kind r.kind (length (arranged kind (r ∷ rs)) ≡ suc (length rs)) (λ k. rw (at_retain r rs k) (ap suc e)) (λ k. rw (at_delete r rs k) (ap suc e))
    (λ k j. rw (at_insert r rs k j, length-append q.deletes (r ∷ (q.inserts ++ q.rest))) (omega (arith, e, f)))

pub no_longer : (rs : List Run) → length (elongated rs) ≤ length rs
unfolding elongated
no_longer rs = omega (arith, joined_length (arranged kind rs), parts_length rs)

-- no insert is directly followed by a delete

unfoldable Deletes : List Run → Type 0
Deletes [] = Unit
Deletes (r ∷ rs) = (r.kind ≡ 0) × Deletes rs

unfoldable Inserts : List Run → Type 0
Inserts [] = Unit
Inserts (r ∷ rs) = (r.kind ≡ 0 → ⊥) × Inserts rs

record Sorted (q : Parts Run) : Type 0 where
  deletes : Deletes q.deletes
  inserts : Inserts q.inserts
  rest : Settled q.rest
  starts : (k : ℕ) → Follows k q.rest

behind_inserts : (k : ℕ) (bs cs : List Run) → Inserts bs → ((m : ℕ) → Follows m cs) → Follows k (bs ++ cs)
unfolding Follows Inserts
behind_inserts k [] cs i s = s k
behind_inserts k (b ∷ bs) cs i s = λ z. absurd (i.0 z)

settled_inserts : (bs cs : List Run) → Inserts bs → ((m : ℕ) → Follows m cs) → Settled cs → Settled (bs ++ cs)
unfolding Settled Inserts
settled_inserts [] cs i s t = t
settled_inserts (b ∷ bs) cs i s t = (behind_inserts b.kind bs cs i.1 s, settled_inserts bs cs i.1 s t)

follows_zero : (ss : List Run) → Follows 0 ss
unfolding Follows
follows_zero [] = tt
follows_zero (s ∷ ss) = λ z. inl refl

follows_two : (ss : List Run) → Follows 2 ss
unfolding Follows
follows_two [] = tt
follows_two (s ∷ ss) = λ z. inr refl

settled_deletes : (ds cs : List Run) → Deletes ds → Settled cs → Settled (ds ++ cs)
unfolding Settled Deletes
settled_deletes [] cs d t = t
settled_deletes (r ∷ ds) cs d t = (rw d.0 (follows_zero (ds ++ cs)), settled_deletes ds cs d.1 t)

settled_together : (q : Parts Run) → Sorted q → Settled (together q)
settled_together q s = settled_deletes q.deletes (q.inserts ++ q.rest) s.deletes (settled_inserts q.inserts q.rest s.inserts s.starts s.rest)

sorted_parts : (rs : List Run) → Sorted (parts kind rs)
unfolding parts Deletes Inserts Settled Follows
sorted_parts [] = record { deletes = tt; inserts = tt; rest = tt; starts = λ k. tt }
sorted_parts (r ∷ rs) =
    let q = sorted_parts rs in
    by_kind r.kind (Sorted (parts kind (r ∷ rs)))
    (λ k.
    rw (at_retain r rs k)
    (record {
      deletes = tt;
      inserts = tt;
      rest = (rw k (follows_two (together (parts kind rs))), settled_together (parts kind rs) q);
      starts = λ m z. absurd (omega arith);
    }))
    (λ k. rw (at_delete r rs k) (record { deletes = (k, q.deletes); inserts = q.inserts; rest = q.rest; starts = q.starts }))
    (λ k j. rw (at_insert r rs k j) (record { deletes = q.deletes; inserts = (j, q.inserts); rest = q.rest; starts = q.starts }))

-- joining keeps it: a joined run has the kind of its first
head_kind : (m : ℕ) (c : Run) (rs : List Run) → Follows m (c ∷ rs) → Follows m (joined_from c rs)
unfolding joined_from Follows
head_kind m c [] f = f
head_kind m c (r ∷ rs) f =
    by_test (joinable c.kind (last_right c.tokens) r) (Follows m (joined_from c (r ∷ rs))) (λ t. rw (joins_on c r rs t) (head_kind m (join c r) rs f))
    (λ t. rw (joins_apart c r rs t) f)

settled_joined : (c : Run) (rs : List Run) → Settled (c ∷ rs) → Settled (joined_from c rs)
unfolding joined_from Settled
settled_joined c [] s = s
settled_joined c (r ∷ rs) s =
    by_test (joinable c.kind (last_right c.tokens) r) (Settled (joined_from c (r ∷ rs)))
    (λ t.
    let k : c.kind ≡ r.kind =
    eqb-true c.kind r.kind (and_left (eqb c.kind r.kind) (not (eqb c.kind 2)) (and_left (eqb c.kind r.kind && not (eqb c.kind 2)) _ t))
    in
    rw (joins_on c r rs t) (settled_joined (join c r) rs (rw (sym k) at s.1.0, s.1.1)))
    (λ t. rw (joins_apart c r rs t) (head_kind c.kind r rs s.0, settled_joined r rs s.1))

all_settled : (rs : List Run) → Settled rs → Settled (joined rs)
all_settled [] s = s
all_settled (r ∷ rs) s = settled_joined r rs s

pub settles : (rs : List Run) → Settled (elongated rs)
unfolding elongated
settles rs = all_settled (arranged kind rs) (settled_together (parts kind rs) (sorted_parts rs))

-- elongating again changes nothing

inserts_end : (k : ℕ) (rs : List Run) → (k ≡ 2 → ⊥) → (k ≡ 0 → ⊥) → Follows k rs → Settled rs → (parts kind rs).deletes ≡ []
unfolding parts Follows Settled
inserts_end k [] a b f s = refl
inserts_end k (r ∷ rs) a b f s =
    by_kind r.kind ((parts kind (r ∷ rs)).deletes ≡ []) (λ e. rw (at_retain r rs e)) (λ e. absurd (⊎_elim b a (f e)))
    (λ e g. rw (at_insert r rs e g) (inserts_end r.kind rs e g s.0 s.1))

arranged_same : (rs : List Run) → Settled rs → arranged kind rs ≡ rs
unfolding parts Settled
arranged_same [] s = refl
arranged_same (r ∷ rs) s =
    let q : Parts Run = parts kind rs in
    let e = arranged_same rs s.1 in
    by_kind r.kind (arranged kind (r ∷ rs) ≡ r ∷ rs) (λ k. rw (at_retain r rs k) (ap (λ (z : List Run). r ∷ z) e))
    (λ k. rw (at_delete r rs k) (ap (λ (z : List Run). r ∷ z) e))
    (λ k j.
    let d = inserts_end r.kind rs k j s.0 s.1 in
    let f : q.inserts ++ q.rest ≡ rs = rw d at e in
    rw (at_insert r rs k j, d, f))

-- no two neighbours would join

unfoldable Lone : Run → List Run → Type 0
Lone c [] = Unit
Lone c (r ∷ rs) = joinable c.kind (last_right c.tokens) r ≡ false

unfoldable Apart : List Run → Type 0
Apart [] = Unit
Apart (r ∷ rs) = Lone r rs × Apart rs

joined_same : (c : Run) (rs : List Run) → Apart (c ∷ rs) → joined_from c rs ≡ c ∷ rs
unfolding joined_from Apart Lone
joined_same c [] a = refl
joined_same c (r ∷ rs) a = joins_apart c r rs a.0 ∙ ap (λ (z : List Run). c ∷ z) (joined_same r rs a.1)

first_append : (ps qs : List Piece) → 0 < length ps → first_left (ps ++ qs) ≡ first_left ps
unfolding first_left
first_append [] qs h = absurd (omega arith)
first_append (p ∷ ps) qs h = refl

-- a joined run begins with the first token of its first
lone_head : (c r : Run) (rs : List Run) → 0 < length r.tokens → joinable c.kind (last_right c.tokens) r ≡ false → Lone c (joined_from r rs)
unfolding joined_from Lone
lone_head c r [] h f = f
lone_head c r (s ∷ rs) h f =
    by_test (joinable r.kind (last_right r.tokens) s) (Lone c (joined_from r (s ∷ rs)))
    (λ t.
    let m : 0 < length (r.tokens ++ s.tokens) = rw (length-append) (omega arith) in
    rw (joins_on r s rs t) (lone_head c (join r s) rs m (rw (first_append r.tokens s.tokens h) f)))
    (λ t. rw (joins_apart r s rs t) f)

apart_from : (c : Run) (rs : List Run) → 0 < length c.tokens → AllSome rs → Apart (joined_from c rs)
unfolding joined_from Apart Lone AllSome
apart_from c [] h a = (tt, tt)
apart_from c (r ∷ rs) h a =
    by_test (joinable c.kind (last_right c.tokens) r) (Apart (joined_from c (r ∷ rs)))
    (λ t.
    let m : 0 < length (c.tokens ++ r.tokens) = rw (length-append) (omega arith) in
    rw (joins_on c r rs t) (apart_from (join c r) rs m a.1))
    (λ t. rw (joins_apart c r rs t) (lone_head c r rs a.0 t, apart_from r rs a.0 a.1))

joined_again : (rs : List Run) → Apart rs → joined rs ≡ rs
joined_again [] a = refl
joined_again (r ∷ rs) a = joined_same r rs a

joined_apart : (rs : List Run) → AllSome rs → Apart (joined rs)
unfolding Apart AllSome
joined_apart [] a = tt
joined_apart (r ∷ rs) a = apart_from r rs a.0 a.1

-- every run of the arranged list has tokens

some_append : (rs ss : List Run) → AllSome rs → AllSome ss → AllSome (rs ++ ss)
unfolding AllSome
some_append [] ss g h = h
some_append (r ∷ rs) ss g h = (g.0, some_append rs ss g.1 h)

record Some (q : Parts Run) : Type 0 where
  deletes : AllSome q.deletes
  inserts : AllSome q.inserts
  rest : AllSome q.rest

some_together : (q : Parts Run) → Some q → AllSome (together q)
some_together q s = some_append q.deletes (q.inserts ++ q.rest) s.deletes (some_append q.inserts q.rest s.inserts s.rest)

some_parts : (rs : List Run) → AllSome rs → Some (parts kind rs)
unfolding parts AllSome
some_parts [] a = record { deletes = tt; inserts = tt; rest = tt }
some_parts (r ∷ rs) a =
    let q = some_parts rs a.1 in
    by_kind r.kind (Some (parts kind (r ∷ rs)))
    (λ k. rw (at_retain r rs k) (record { deletes = tt; inserts = tt; rest = (a.0, some_together (parts kind rs) q) }))
    (λ k. rw (at_delete r rs k) (record { deletes = (a.0, q.deletes); inserts = q.inserts; rest = q.rest }))
    (λ k j. rw (at_insert r rs k j) (record { deletes = q.deletes; inserts = (a.0, q.inserts); rest = q.rest }))

pub again : (rs : List Run) → AllSome rs → elongated (elongated rs) ≡ elongated rs
unfolding elongated
again rs a =
    let ls : List Run = arranged kind rs in
    rw (arranged_same (joined ls) (all_settled ls (settled_together (parts kind rs) (sorted_parts rs))))
    (joined_again (joined ls) (joined_apart ls (some_together (parts kind rs) (some_parts rs a))))
