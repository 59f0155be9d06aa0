-- `build` puts the replayed text. What is put, and what the items left will put, is all of it (Building).
use Rattle.std.proofs.Common.{◌≡◌, length}
use Rattle.diff.proofs.Loops.{Over}
use Rattle.replay.proofs.Building.{Building}
use Rattle.replay.proofs.build.Given as goal

abbrev pub invariant-items : goal.invariant-items
invariant-items l = record {
  over : l.builder.original.now ≡ l.original;
  builds : Over l.items.numbers.now (length l.items.text.now) (λ i. Building l.original l.items.numbers.now l.items.text.now l.initial.out i l.builder.position l.out l.at) l.item-iterator;
}
