-- `length_at` is the length of the sequence at a place, where one stands.
-- By the one bits of the first byte; each return is a way of Judging.
use Rattle.utf8_read.proofs.Judging.{long_1, short_2, long_2, bad_2, short_3, long_3, bad_3, short_4, long_4, bad_4, no_first}
use Rattle.std.proofs.Common.{arith, sym, ◌∙◌}
use Rattle.utf8_read.proofs.length_at.Goals as goal

pub returns-in-0 : goal.returns-in-0
returns-in-0 c = (long_1 _ _ c.requires (sym c.ones_of.ensures ∙ c.in-0.is), omega arith)

pub returns-in-2 : goal.returns-in-2
returns-in-2 c = (long_2 _ _ c.requires (omega arith) (sym c.is_two.ensures ∙ c.if-is_two.true), omega arith)

pub returns-in-3 : goal.returns-in-3
returns-in-3 c = (long_3 _ _ c.requires (omega arith) (sym c.is_three.ensures ∙ c.if-is_three.true), omega arith)

pub returns-in-4 : goal.returns-in-4
returns-in-4 c = (long_4 _ _ c.requires (omega arith) (sym c.is_four.ensures ∙ c.if-is_four.true), omega arith)

pub returns-in_default : goal.returns-in_default
returns-in_default c = sym (bad_2 _ _ c.requires (sym c.ones_of.ensures ∙ c.in-2.is) (sym c.is_two.ensures ∙ c.if-is_two.false))

pub returns-in_default-2 : goal.returns-in_default-2
returns-in_default-2 c = sym (short_2 _ _ c.requires (sym c.ones_of.ensures ∙ c.in-2.is) c.if-left-ge2.false)

pub returns-in_default-3 : goal.returns-in_default-3
returns-in_default-3 c = sym (bad_3 _ _ c.requires (sym c.ones_of.ensures ∙ c.in-3.is) (sym c.is_three.ensures ∙ c.if-is_three.false))

pub returns-in_default-4 : goal.returns-in_default-4
returns-in_default-4 c = sym (short_3 _ _ c.requires (sym c.ones_of.ensures ∙ c.in-3.is) c.if-left-ge3.false)

pub returns-in_default-5 : goal.returns-in_default-5
returns-in_default-5 c = sym (bad_4 _ _ c.requires (sym c.ones_of.ensures ∙ c.in-4.is) (sym c.is_four.ensures ∙ c.if-is_four.false))

pub returns-in_default-6 : goal.returns-in_default-6
returns-in_default-6 c = sym (short_4 _ _ c.requires (sym c.ones_of.ensures ∙ c.in-4.is) c.if-left-ge4.false)

pub returns-in_default-7 : goal.returns-in_default-7
returns-in_default-7 c = sym (no_first _ _ c.requires _ c.ones_of.ensures (λ e. omega arith) (λ e. omega arith) (λ e. omega arith) (λ e. omega arith))
