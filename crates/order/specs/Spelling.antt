-- What is left of a spelling that is read code point by code point. Assumes nothing.
use Rattle.std.specs.Prelude.{ℕ, List, ◌++◌}
use Rattle.merging.specs.Lent.{lent_in, spelling_of}
use Rattle.order.specs.declared.spelling.Reader.{Reader}
use Rattle.order.specs.Readable.{Run}

-- the tokens that come lie in what was lent
abbrev pub CanRead : Reader → Type 0
CanRead r = Run r.lent.text.now r.lent.tokens.spans.now r.lent.tokens.keys.now r.next r.count

-- "inserts by spelling, code point by code point": what is left, of a token and of those behind it
abbrev pub left : Reader → List ℕ
left r = r.rest.now ++ spelling_of (lent_in r.lent) r.next r.count
