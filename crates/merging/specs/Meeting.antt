-- What a taken operation meets: the cut, the meet rule, an insert after a remembered insert, and what is remembered. Each is
-- said for the side that is taken; `rs` is what is next on the other side, `v` what is remembered of it. Assumes nothing.
use Rattle.std.specs.Prelude.{ℕ, ◌+◌, ◌-◌, min, true, false, ◌&&◌, List, [], ◌∷◌, ◌++◌, eqb, ltb, drop}
use Rattle.overlap.specs.declared.Range.{Range}
use Rattle.merging.specs.declared.Op.{Op}
use Rattle.merging.specs.declared.Op.TheVariants.{Delete, Insert, Retain}
use Rattle.merging.specs.Lent.{Lent, Rules, keys_of, lengths_of}
use Rattle.merging.specs.Operations.{order_of}

-- "only where the cut is strictly inside": how much of a retain of length l at o is taken where the cut is at b
unfoldable pub cut_at : ℕ → ℕ → ℕ → ℕ
cut_at o l b = elim (ltb o b && ltb b (o + l)) [ true ↦ b - o | false ↦ l ]

-- "else, when that operation is no insert, at its end"
abbrev pub cut_at_end : ℕ → ℕ → Op → ℕ
cut_at_end o l (Delete o' l') = cut_at o l (o' + l')
cut_at_end o l (Insert o' f' n') = l
cut_at_end o l (Retain o' l') = cut_at o l (o' + l')

-- "A taken retain is cut at the other side's next order if that is beyond its own order; else [..] at its end"
unfoldable pub kept_length : ℕ → ℕ → List Op → ℕ
kept_length o l [] = l
kept_length o l (x ∷ rs) = elim (ltb o (order_of x)) [ true ↦ cut_at o l (order_of x) | false ↦ cut_at_end o l x ]

-- "A taken retain is cut": the operation that is left of it
abbrev pub front_of : Op → List Op → Op
front_of (Delete o l) rs = Delete o l
front_of (Insert o f n) rs = Insert o f n
front_of (Retain o l) rs = Retain o (kept_length o l rs)

-- "The tail stays next.": of a retain of length l at o, of which k is taken, in front of ls
unfoldable pub behind_cut : ℕ → ℕ → ℕ → List Op → List Op
behind_cut o l k ls = elim (ltb k l) [ true ↦ Retain (o + k) (l - k) ∷ ls | false ↦ ls ]

-- "The tail stays next."
abbrev pub tail_of : Op → List Op → List Op → List Op
tail_of (Delete o l) rs ls = ls
tail_of (Insert o f n) rs ls = ls
tail_of (Retain o l) rs ls = behind_cut o l (kept_length o l rs) ls

-- "The result is remembered": nothing yet, or an operation; of an insert its tokens' keys and lengths
pub data Remembered : Type 0 where
  nothing : Remembered
  deleted retained : ℕ → ℕ → Remembered
  inserted : ℕ → List ℕ → List ℕ → Remembered

-- "Overlap of inserts": how many tokens it has
abbrev pub width_of : Range → ℕ
width_of r = r.end - r.start

-- "delete after delete, retain after retain, retain after delete lose from the front the part before the earlier one's end";
-- "Insert after remembered insert loses the overlap": how much an operation loses, in code points, or an insert in tokens
unfoldable pub lost_of : Rules → Op → Remembered → ℕ
lost_of R (Delete o l) nothing = 0
lost_of R (Delete o l) (deleted o' l') = min l (o' + l' - o)
lost_of R (Delete o l) (retained o' l') = 0
lost_of R (Delete o l) (inserted o' ks ls) = 0
lost_of R (Insert o f n) nothing = 0
lost_of R (Insert o f n) (deleted o' l') = 0
lost_of R (Insert o f n) (retained o' l') = 0
lost_of R (Insert o f n) (inserted o' ks ls) = width_of (R.overlap ks (keys_of R.lent f n))
lost_of R (Retain o l) nothing = 0
lost_of R (Retain o l) (deleted o' l') = min l (o' + l' - o)
lost_of R (Retain o l) (retained o' l') = min l (o' + l' - o)
lost_of R (Retain o l) (inserted o' ks ls) = 0

-- "so order grows and length shrinks alike"; an insert keeps its order and loses tokens
abbrev pub shortened : Op → ℕ → Op
shortened (Delete o l) z = Delete (o + z) (l - z)
shortened (Insert o f n) z = Insert o (f + z) (n - z)
shortened (Retain o l) z = Retain (o + z) (l - z)

-- "Meet rule, an operation against the other side's last remembered one"
unfoldable pub met_of : Rules → Op → Remembered → Op
met_of R a v = shortened a (lost_of R a v)

-- "if all its tokens were lost, the remembered tokens up to the overlap's end are used up, else all are": an insert of n tokens,
-- whose overlap with the remembered ones is r
unfoldable pub used_up : Range → ℕ → ℕ → List ℕ → List ℕ → Remembered
used_up r n o ks ls = elim (eqb (width_of r) n) [ true ↦ inserted o (drop r.end ks) (drop r.end ls) | false ↦ inserted o [] [] ]

-- "if all its tokens were lost, the remembered tokens [..] are used up": what stays remembered of the other side
abbrev pub other_of : Rules → Op → Remembered → Remembered
other_of R (Delete o l) v = v
other_of R (Insert o f n) nothing = nothing
other_of R (Insert o f n) (deleted o' l') = deleted o' l'
other_of R (Insert o f n) (retained o' l') = retained o' l'
other_of R (Insert o f n) (inserted o' ks ls) = used_up (R.overlap ks (keys_of R.lent f n)) n o' ks ls
other_of R (Retain o l) v = v

-- "an insert after a remembered insert of the same order on its own side is appended"
unfoldable pub appended : ℕ → List ℕ → List ℕ → ℕ → List ℕ → List ℕ → Remembered
appended o' ks' ls' o ks ls = elim (eqb o' o) [ true ↦ inserted o' (ks' ++ ks) (ls' ++ ls) | false ↦ inserted o ks ls ]

-- "The result is remembered, even when empty": what is remembered of its side, u having been before
abbrev pub remember_of : Lent → Remembered → Op → Remembered
remember_of lent u (Delete o l) = deleted o l
remember_of lent u (Retain o l) = retained o l
remember_of lent nothing (Insert o f n) = inserted o (keys_of lent f n) (lengths_of lent f n)
remember_of lent (deleted o' l') (Insert o f n) = inserted o (keys_of lent f n) (lengths_of lent f n)
remember_of lent (retained o' l') (Insert o f n) = inserted o (keys_of lent f n) (lengths_of lent f n)
remember_of lent (inserted o' ks' ls') (Insert o f n) = appended o' ks' ls' o (keys_of lent f n) (lengths_of lent f n)
