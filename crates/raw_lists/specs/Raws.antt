-- Raw operations and their tokens, out of flat lists: three numbers an operation; a token's two numbers, key and flags. Assumes nothing.
use Rattle.std.specs.Prelude.{ℕ, zero, suc, ◌+◌, ◌*◌, ◌/◌, ◌%◌, min, Bool, List, [], ◌∷◌, length, get_or, eqb}
use Rattle.raw_lists.specs.declared.Raw.{Raw}

-- "A raw operation is a kind and its tokens, for all three kinds": the one at place i
abbrev pub raw_at : List ℕ → ℕ → Raw
raw_at xs i = record { kind = get_or xs (i * 3) 0; first = get_or xs (i * 3 + 1) 0; count = get_or xs (i * 3 + 2) 0 }

-- "A raw operation is a kind and its tokens": the k from place i on
unfoldable pub raws_from : List ℕ → ℕ → ℕ → List Raw
raws_from xs i zero = []
raws_from xs i (suc k) = raw_at xs i ∷ raws_from xs (i + 1) k

-- "A raw operation is a kind and its tokens": all whole ones
unfoldable pub raws_of : List ℕ → List Raw
raws_of xs = raws_from xs 0 (length xs / 3)

-- "A token is a range of lent code points, a key, and two flags, left joinable and right joinable."
pub record Piece : Type 0 where
  pub start : ℕ
  pub length : ℕ
  pub key : ℕ
  pub joins : ℕ

-- "two flags, left joinable and right joinable": bits 0 and 1
abbrev pub left_joinable : Piece → Bool
left_joinable p = eqb (p.joins % 2) 1

-- "right joinable": bit 1
abbrev pub right_joinable : Piece → Bool
right_joinable p = eqb (p.joins / 2 % 2) 1

-- "token or range outside what was lent": a token is lent when all three lists reach it
abbrev pub pieces_lent : List ℕ → List ℕ → List ℕ → ℕ
pieces_lent spans keys joins = min (min (length spans / 2) (length keys)) (length joins)

-- "A token is a range of lent code points, a key, and two flags": the one at place i
abbrev pub piece_at : List ℕ → List ℕ → List ℕ → ℕ → Piece
piece_at spans keys joins i =
    record { start = get_or spans (i * 2) 0; length = get_or spans (i * 2 + 1) 0; key = get_or keys i 0; joins = get_or joins i 0 }

-- "its tokens": the k from place i on
unfoldable pub pieces_from : List ℕ → List ℕ → List ℕ → ℕ → ℕ → List Piece
pieces_from spans keys joins i zero = []
pieces_from spans keys joins i (suc k) = piece_at spans keys joins i ∷ pieces_from spans keys joins (i + 1) k

-- "A token is a range of lent code points, a key, and two flags": the ranges of tokens, as their room holds them
unfoldable pub flat_spans : List Piece → List ℕ
flat_spans [] = []
flat_spans (p ∷ ps) = p.start ∷ p.length ∷ flat_spans ps

-- "a key": their keys
unfoldable pub flat_keys : List Piece → List ℕ
flat_keys [] = []
flat_keys (p ∷ ps) = p.key ∷ flat_keys ps

-- "two flags, left joinable and right joinable": their flags
unfoldable pub flat_joins : List Piece → List ℕ
flat_joins [] = []
flat_joins (p ∷ ps) = p.joins ∷ flat_joins ps

-- "A raw operation is a kind and its tokens"
pub record Run : Type 0 where
  pub kind : ℕ
  pub tokens : List Piece

-- "A raw operation is a kind and its tokens": the one that a raw record means
abbrev pub run_of : List ℕ → List ℕ → List ℕ → Raw → Run
run_of spans keys joins r = record { kind = r.kind; tokens = pieces_from spans keys joins r.first r.count }

-- "A raw operation is a kind and its tokens": a whole list
unfoldable pub runs_of : List ℕ → List ℕ → List ℕ → List Raw → List Run
runs_of spans keys joins [] = []
runs_of spans keys joins (r ∷ rs) = run_of spans keys joins r ∷ runs_of spans keys joins rs
