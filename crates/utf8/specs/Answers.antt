-- What the four calls answer, and what they leave in the lent room. Assumes nothing.
use Rattle.std.specs.Prelude.{ℕ, ◌≡◌, List, length, ltb, Result, Ok, Err}
use Rattle.refusal.specs.declared.Refusal.TheVariants.{CodePoint, Room, Utf8}
use Rattle.room.specs.Choice.{pick}
use Rattle.room.specs.Placed.{answered}
use Rattle.utf8_read.specs.Reading.{good_end, points}
use Rattle.numbers.specs.Points.{scalars}
use Rattle.utf8_write.specs.Writing.{encode_all}
use Rattle.refusal.specs.declared.Refusal.{Refusal}

-- "bad UTF-8": "offset of the first byte of the first bad sequence"; else how many code points there are
unfoldable pub read_length_of : List ℕ → Result ℕ Refusal
read_length_of s = pick (ltb (good_end s) (length s)) (Err (Utf8 (good_end s))) (Ok (length (points s)))

-- "Reading UTF-8: 10 then 7", 7 being "a lent room is shorter than asked"
unfoldable pub read_of : List ℕ → ℕ → Result ℕ Refusal
read_of s room =
    pick (ltb (good_end s) (length s)) (Err (Utf8 (good_end s)))
    (pick (ltb room (length (points s))) (Err Room) (Ok (length (points s))))

-- "a lent text holds a number above 10FFFF hex or in D800 to DFFF": "its index"; else how many bytes its code points take
unfoldable pub write_length_of : List ℕ → Result ℕ Refusal
write_length_of xs = pick (ltb (scalars xs) (length xs)) (Err (CodePoint (scalars xs))) (Ok (length (encode_all xs)))

-- "writing it: 4 then 7"
unfoldable pub write_of : List ℕ → ℕ → Result ℕ Refusal
write_of xs room =
    pick (ltb (scalars xs) (length xs)) (Err (CodePoint (scalars xs)))
    (pick (ltb room (length (encode_all xs))) (Err Room) (Ok (length (encode_all xs))))

-- "A refusal writes nothing. On success a room past its answer is unchanged"
unfoldable pub leaves : Result ℕ Refusal → List ℕ → List ℕ → List ℕ
leaves (Ok n) a d = answered a d
leaves (Err w) a d = d

-- "A public call's statement covers its result, numbers of a refusal included, and the lent buffers": r is the answer that is due, and the room d is left as that answer leaves it for the content a
pub record Answered (due r : Result ℕ Refusal) (a d d' : List ℕ) : Type 0 where
  pub answer : r ≡ due
  pub room : d' ≡ leaves due a d
