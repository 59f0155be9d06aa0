-- The four public calls: what each answers, and what it leaves in the room, from what the checks found.
-- The room is looked at last. Assumes nothing.
use mathlib.Core.Path.{◌≡◌, sym, ◌∙◌}
use mathlib.Core.List.{List}
use Prim.Native.Nat.{ℕ, ◌≤◌, ◌<◌}
use native.Mathlib.Nat.{zero-add}
use lib.ListN.{length}
use borrow.Author.Tests.{lt-ltb, le-ltb}
use Rattle.room.specs.Placed.{Put}
use Rattle.room.proofs.Answers.{at_start}
use Rattle.refusal.specs.declared.Refusal.{Refusal}
use Rattle.refusal.specs.declared.Refusal.TheVariants.{Room}
use Rattle.verdict.specs.Verdicts.{Verdict}
use Rattle.diff.specs.Checks.{fits}
use Rattle.replay.specs.Answers.{Diff, text_of, always, roomed, length_of, Replayed}
use Rattle.diff.proofs.Laws.{refused_by, answered_by}
use Rattle.std.specs.Prelude.{Result, Ok, Err}

module _ (check : Diff → Verdict) (d : Diff) where
  -- a length that is answered is that of the text
  pub as_long : {n : ℕ} → Ok n ≡ length_of check d → n ≡ length (text_of d)
  unfolding length_of
  as_long {n} e = sym (answered_by (check d) _ n (sym e)).1

  -- a refusal before the room is looked at
  pub replay_stops : (room : List ℕ) {r : Refusal} → Err r ≡ length_of check d → Replayed check d room (Err r) room
  unfolding roomed length_of
  replay_stops room {r} e =
      let v = refused_by (check d) _ r (sym e) in
      record { answer = rw (v); leaving = rw (v) }

  -- with nothing refused, the room decides
  pub replay_goes :
      {n : ℕ} {room room' : List ℕ} {r : Result ℕ Refusal} → Ok n ≡ length_of check d → Replayed always d room r room' → Replayed check d room r room'
  unfolding roomed always length_of
  replay_goes {n} e h =
      let v = (answered_by (check d) _ n (sym e)).0 in
      record { answer = rw (v) h.answer; leaving = rw (v) h.leaving }

pub no_room : (d : Diff) (room : List ℕ) → length room < length (text_of d) → Replayed always d room (Err Room) room
unfolding roomed always fits
no_room d room h = record { answer = rw (lt-ltb _ _ h); leaving = rw (lt-ltb _ _ h) }

pub has_room : (d : Diff) (room : List ℕ) {room' : List ℕ} {r : ℕ} → length (text_of d) ≤ length room → Put (text_of d) room 0 room' r
    → Replayed always d room (Ok r) room'
unfolding roomed always fits
has_room d room h p = record {
  answer = rw (le-ltb _ _ h, p.next, zero-add (length (text_of d)));
  leaving = rw (le-ltb _ _ h) (p.stands ∙ at_start (text_of d) room);
}
