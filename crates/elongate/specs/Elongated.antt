-- Elongating and cooking, over lists of raw operations. Assumes nothing.
use Rattle.std.specs.Prelude.{ℕ, ◌+◌, Bool, true, false, ◌&&◌, not, List, [], ◌∷◌, ◌++◌, length, eqb}
use Rattle.room.specs.Choice.{pick}
use Rattle.records.specs.declared.Operation.{Operation}
use Rattle.raw_lists.specs.Raws.{Piece, Run, left_joinable, right_joinable}

-- "each stretch without a retain": the deletes and the inserts of the first, and what comes behind it, arranged
pub record Parts (A : Type 0) : Type 0 where
  pub deletes : List A
  pub inserts : List A
  pub rest : List A

-- "all deletes come first, then all inserts"
abbrev pub together : {A : Type 0} → Parts A → List A
together p = p.deletes ++ (p.inserts ++ p.rest)

-- "in each stretch without a retain, all deletes come first, then all inserts, each kind in its own order"
unfoldable pub parts : {A : Type 0} → (A → ℕ) → List A → Parts A
parts kind [] = record { deletes = []; inserts = []; rest = [] }
parts kind (r ∷ rs) =
    elim (eqb (kind r) 2) [
      | true ↦ record { deletes = []; inserts = []; rest = r ∷ together (parts kind rs) }
      | false ↦
          elim (eqb (kind r) 0) [
            | true ↦
                record {
                  deletes = r ∷ (parts kind rs).deletes;
                  inserts = (parts kind rs).inserts;
                  rest = (parts kind rs).rest;
                }
            | false ↦
                record {
                  deletes = (parts kind rs).deletes;
                  inserts = r ∷ (parts kind rs).inserts;
                  rest = (parts kind rs).rest;
                }
          ]
    ]

-- "in each stretch without a retain, all deletes come first, then all inserts, each kind in its own order"
abbrev pub arranged : {A : Type 0} → (A → ℕ) → List A → List A
arranged kind rs = together (parts kind rs)

-- "by last and first token": the flags of the tokens where two runs would join
unfoldable pub last_right : List Piece → Bool
last_right [] = false
last_right (p ∷ []) = right_joinable p
last_right (p ∷ q ∷ ps) = last_right (q ∷ ps)

-- "by last and first token": the first one's flag, left joinable
unfoldable pub first_left : List Piece → Bool
first_left [] = false
first_left (p ∷ ps) = left_joinable p

-- "neighbours of one kind join when the earlier is right joinable and the later left joinable (by last and first token). Retains never join."
abbrev pub joinable : ℕ → Bool → Run → Bool
joinable kind right r = (eqb kind r.kind && not (eqb kind 2)) && (right && first_left r.tokens)

-- "neighbours of one kind join": their tokens, one after the other
abbrev pub join : Run → Run → Run
join c r = record { kind = c.kind; tokens = c.tokens ++ r.tokens }

-- "neighbours of one kind join": the run c, which stands before the runs
unfoldable pub joined_from : Run → List Run → List Run
joined_from c [] = c ∷ []
joined_from c (r ∷ rs) =
    elim (joinable c.kind (last_right c.tokens) r) [ true ↦ joined_from (join c r) rs | false ↦ c ∷ joined_from r rs ]

-- "neighbours of one kind join": a whole list
abbrev pub joined : List Run → List Run
joined [] = []
joined (r ∷ rs) = joined_from r rs

-- "Elongating: in each stretch without a retain, all deletes come first, then all inserts, each kind in its own order; neighbours of one kind join"
unfoldable pub elongated : List Run → List Run
elongated rs = joined (arranged (λ r. r.kind) rs)

-- "its length its text's"
unfoldable pub pieces_length : List Piece → ℕ
pieces_length [] = 0
pieces_length (p ∷ ps) = p.length + pieces_length ps

-- "An insert's order is the original text consumed before it": what a run consumes
abbrev pub consumes : ℕ → ℕ → ℕ
consumes kind n = pick (eqb kind 1) 0 n

-- "cooking gives order and length, side left": with `at` of the original consumed, and the tokens put from place `first` on
unfoldable pub cooked_from : List Run → ℕ → ℕ → List Operation
cooked_from [] at first = []
cooked_from (r ∷ rs) at first =
    record { kind = r.kind; order = at; length = pieces_length r.tokens; side = 0; first = first; count = length r.tokens }
    ∷ cooked_from rs (at + consumes r.kind (pieces_length r.tokens)) (first + length r.tokens)

-- "cooking gives order and length, side left": a whole list, its tokens from the start of their room
abbrev pub cooked : List Run → List Operation
cooked rs = cooked_from rs 0 0

-- "as many tokens, as the raw list has": the tokens of a list, in order
unfoldable pub all_tokens : List Run → List Piece
all_tokens [] = []
all_tokens (r ∷ rs) = r.tokens ++ all_tokens rs
