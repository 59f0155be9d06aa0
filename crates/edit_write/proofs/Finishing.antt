-- The file's bytes under the header that the sums make, its six lines and its items put one after the other, and the answers of both calls.
-- Where the checks are fine the items are good, so the capped length is exact. Assumes nothing.
use mathlib.Core.Path.{◌≡◌, sym, ap, ◌∙◌}
use mathlib.Core.List.{List, ◌++◌}
use Prim.Native.Nat.{ℕ, ◌+◌, ◌/◌, ◌≤◌, ◌<◌, zero-le}
use native.Mathlib.Omega.{arith}
use lib.ListN.{length, length-append}
use lib.IntN.{ℤ}
use borrow.Author.Tests.{lt-ltb, le-ltb}
use Rattle.room.specs.Placed.{answered, Put}
use Rattle.room.proofs.Answers.{at_start}
use Rattle.refusal.specs.declared.Refusal.{Refusal}
use Rattle.refusal.specs.declared.Refusal.TheVariants.{Room}
use Rattle.verdict.specs.Verdicts.{Verdict, accepted}
use Rattle.diff.specs.Checks.{fits}
use Rattle.edit_format.specs.Items.{Item, kept, dropped, added}
use Rattle.edit_format.specs.Written.{form_key, original_key, result_key, items_key, end_key, number_line, item_lines, head_lines, head_of, written}
use Rattle.written_lines.specs.Lengths.{cap}
use Rattle.written_lines.proofs.Emitting.{put_then, put_length}
use Rattle.writable.specs.Writable.{file_of, writable}
use Rattle.edit_write.specs.Writing.{length_of, roomed, Wrote}
use Rattle.writable.specs.Passes.{sums_of, checked_by}
use Rattle.edit_write.specs.Bytes.{file_bytes}
use Rattle.writable.specs.declared.Sums.{Sums}
use Rattle.writable.specs.declared.Checked.{Checked}
use Rattle.diff.proofs.Laws.{refused_by, answered_by}
use Rattle.writable.proofs.Checking.{file_length}
use Rattle.edit_write.proofs.Goodness.{writable_good, written_short}
use Rattle.std.specs.Prelude.{Ok, Err}

-- what the checks found
pub fine_by : (v : Verdict) (is : List Item) {c : Checked} → Ok c ≡ checked_by v is → (v ≡ accepted) × ((c.sums ≡ sums_of is) × (c.lines ≡ cap (length (item_lines is))))
fine_by v is {c} e =
    let w = answered_by v (record { sums = sums_of is; lines = cap (length (item_lines is)) }) c (sym e) in
    (w.0, (ap (λ (x : Checked). x.sums) (sym w.1), ap (λ (x : Checked). x.lines) (sym w.1)))

module _ (xs : List ℤ) (text : List ℕ) where
  file_written : file_bytes xs text (kept (file_of xs text) + dropped (file_of xs text)) (kept (file_of xs text) + added (file_of xs text)) ≡ written (file_of xs text)
  unfolding file_bytes written head_of
  file_written = rw (file_length xs text)

  -- the sums of what can be written are small
  pub small : {c : Checked} → Ok c ≡ checked_by (writable (file_of xs text) text) (file_of xs text) → (c.sums.kept ≤ 65535) × (c.sums.added ≤ 131070)
  small {c} e =
      let f = fine_by (writable (file_of xs text) text) (file_of xs text) e in
      let g = writable_good xs text f.0 in
      (omega (arith, ap (λ (t : Sums). t.kept) f.1.0, g.original), omega (arith, ap (λ (t : Sums). t.added) f.1.0, g.text))

  module _ {c : Checked} (e : Ok c ≡ checked_by (writable (file_of xs text) text) (file_of xs text)) where
    passed : writable (file_of xs text) text ≡ accepted
    passed = (fine_by (writable (file_of xs text) text) (file_of xs text) e).0

    bytes : file_bytes xs text c.sums.used (c.sums.kept + c.sums.added) ≡ written (file_of xs text)
    bytes = rw (fine_by (writable (file_of xs text) text) (file_of xs text) e).1.0 file_written

    pub lines_are : c.lines ≡ cap (length (item_lines (file_of xs text)))
    lines_are = (fine_by (writable (file_of xs text) text) (file_of xs text) e).1.1

    pub lines_most : c.lines ≤ 1099511627776
    lines_most = omega (arith, lines_are)

    pub exact : {n : ℕ} → n ≡ cap (length (file_bytes xs text c.sums.used (c.sums.kept + c.sums.added))) → n ≡ length (written (file_of xs text))
    exact f = omega (arith, ap length bytes, written_short (file_of xs text) (writable_good xs text passed))

    pub length_fine : {n : ℕ} → n ≡ cap (length (file_bytes xs text c.sums.used (c.sums.kept + c.sums.added))) → Ok n ≡ length_of (file_of xs text) text
    unfolding length_of
    length_fine f = rw passed (ap Ok (exact f))

    pub no_room : (out : List ℕ) {n : ℕ} → n ≡ cap (length (file_bytes xs text c.sums.used (c.sums.kept + c.sums.added))) → length out < n → Wrote (file_of xs text) text out out (Err Room)
    unfolding roomed fits
    no_room out f h =
        let w : length out < length (written (file_of xs text)) = omega (arith, exact f) in
        record { answer = rw (passed, lt-ltb (length out) (length (written (file_of xs text))) w); room = rw (passed, lt-ltb (length out) (length (written (file_of xs text))) w) }

    pub fits_in : (out : List ℕ) {n : ℕ} → n ≡ cap (length (file_bytes xs text c.sums.used (c.sums.kept + c.sums.added))) → n ≤ length out → length (file_bytes xs text c.sums.used (c.sums.kept + c.sums.added)) ≤ length out
    fits_in out f h = omega (arith, exact f, ap length bytes)

    pub whole : (out : List ℕ) {out' : List ℕ} {n r : ℕ} → n ≡ cap (length (file_bytes xs text c.sums.used (c.sums.kept + c.sums.added))) → n ≤ length out → Put (file_bytes xs text c.sums.used (c.sums.kept + c.sums.added)) out 0 out' r → Wrote (file_of xs text) text out out' (Ok r)
    unfolding roomed fits
    whole out {out'} {n} {r} f h p =
        let w : length (written (file_of xs text)) ≤ length out = omega (arith, exact f) in
        let q : r ≡ length (written (file_of xs text)) = p.next ∙ omega (arith, ap length bytes) in
        record {
          answer = rw (passed, le-ltb (length out) (length (written (file_of xs text))) w) (ap Ok q);
          room = rw (passed, le-ltb (length out) (length (written (file_of xs text))) w) (p.stands ∙ at_start _ out ∙ ap (λ (l : List ℕ). answered l out) bytes);
        }

  module _ {r : Refusal} (e : Err r ≡ checked_by (writable (file_of xs text) text) (file_of xs text)) where
    stopped : writable (file_of xs text) text ≡ Err r
    stopped = refused_by (writable (file_of xs text) text) _ r (sym e)

    pub length_refused : Err r ≡ length_of (file_of xs text) text
    unfolding length_of
    length_refused = rw stopped

    pub write_refused : (out : List ℕ) → Wrote (file_of xs text) text out out (Err r)
    unfolding roomed
    write_refused out = record { answer = rw stopped; room = rw stopped }

sum_of : (s₁ s₂ s₃ s₄ s₅ s₆ d : List ℕ) → length (s₁ ++ s₂ ++ s₃ ++ s₄ ++ s₅ ++ s₆) ≤ length d → length s₁ + length s₂ + length s₃ + length s₄ + length s₅ + length s₆ ≤ length d
sum_of s₁ s₂ s₃ s₄ s₅ s₆ d h = omega (arith, length-append (s₁ ++ s₂ ++ s₃ ++ s₄ ++ s₅) s₆, length-append (s₁ ++ s₂ ++ s₃ ++ s₄) s₅, length-append (s₁ ++ s₂ ++ s₃) s₄, length-append (s₁ ++ s₂) s₃, length-append s₁ s₂)

-- six runs, each where the one before it ends
module _ (s₁ s₂ s₃ s₄ s₅ s₆ d : List ℕ) (h : length s₁ + length s₂ + length s₃ + length s₄ + length s₅ + length s₆ ≤ length d) where
  room_for : {s d' : List ℕ} {a : ℕ} (t : List ℕ) → Put s d 0 d' a → length s + length t ≤ length d → a + length t ≤ length d'
  room_for {s} t p g = omega (arith, p.next, put_length p (omega arith))

  room₁ : 0 + length s₁ ≤ length d
  room₁ = omega arith

  module _ {d₁ : List ℕ} {a₁ : ℕ} (p₁ : Put s₁ d 0 d₁ a₁) where
    room₂ : a₁ + length s₂ ≤ length d₁
    room₂ = room_for s₂ p₁ (omega arith)

    module _ {d₂ : List ℕ} {a₂ : ℕ} (p₂ : Put s₂ d₁ a₁ d₂ a₂) where
      run₂ : Put (s₁ ++ s₂) d 0 d₂ a₂
      run₂ = put_then zero-le p₁ p₂

      room₃ : a₂ + length s₃ ≤ length d₂
      room₃ = room_for s₃ run₂ (omega (arith, length-append s₁ s₂))

      module _ {d₃ : List ℕ} {a₃ : ℕ} (p₃ : Put s₃ d₂ a₂ d₃ a₃) where
        run₃ : Put (s₁ ++ s₂ ++ s₃) d 0 d₃ a₃
        run₃ = put_then zero-le run₂ p₃

        room₄ : a₃ + length s₄ ≤ length d₃
        room₄ = room_for s₄ run₃ (omega (arith, length-append s₁ s₂, length-append (s₁ ++ s₂) s₃))

        module _ {d₄ : List ℕ} {a₄ : ℕ} (p₄ : Put s₄ d₃ a₃ d₄ a₄) where
          run₄ : Put (s₁ ++ s₂ ++ s₃ ++ s₄) d 0 d₄ a₄
          run₄ = put_then zero-le run₃ p₄

          room₅ : a₄ + length s₅ ≤ length d₄
          room₅ = room_for s₅ run₄ (omega (arith, length-append s₁ s₂, length-append (s₁ ++ s₂) s₃, length-append (s₁ ++ s₂ ++ s₃) s₄))

          module _ {d₅ : List ℕ} {a₅ : ℕ} (p₅ : Put s₅ d₄ a₄ d₅ a₅) where
            run₅ : Put (s₁ ++ s₂ ++ s₃ ++ s₄ ++ s₅) d 0 d₅ a₅
            run₅ = put_then zero-le run₄ p₅

            room₆ : a₅ + length s₆ ≤ length d₅
            room₆ = room_for s₆ run₅ (omega (arith, length-append s₁ s₂, length-append (s₁ ++ s₂) s₃, length-append (s₁ ++ s₂ ++ s₃) s₄, length-append (s₁ ++ s₂ ++ s₃ ++ s₄) s₅))

            run₆ : {d₆ : List ℕ} {a₆ : ℕ} → Put s₆ d₅ a₅ d₆ a₆ → Put (s₁ ++ s₂ ++ s₃ ++ s₄ ++ s₅ ++ s₆) d 0 d₆ a₆
            run₆ p₆ = put_then zero-le run₅ p₆

-- the six runs of a file
module _ (xs : List ℤ) (text : List ℕ) (o r : ℕ) (d : List ℕ) (fits' : length (file_bytes xs text o r) ≤ length d) where
  sum : length (number_line form_key 1) + length (number_line original_key o) + length (number_line result_key r) + length (number_line items_key (length xs / 3)) + length (item_lines (file_of xs text)) + length (number_line end_key (length xs / 3)) ≤ length d
  unfolding file_bytes head_lines
  sum = sum_of (number_line form_key 1) (number_line original_key o) (number_line result_key r) (number_line items_key (length xs / 3)) (item_lines (file_of xs text)) (number_line end_key (length xs / 3)) d fits'

  pub form_in : 0 + length (number_line form_key 1) ≤ length d
  form_in = room₁ (number_line form_key 1) (number_line original_key o) (number_line result_key r) (number_line items_key (length xs / 3)) (item_lines (file_of xs text)) (number_line end_key (length xs / 3)) d sum

  pub original_in : {d₁ : List ℕ} {a₁ : ℕ} → Put (number_line form_key 1) d 0 d₁ a₁ → a₁ + length (number_line original_key o) ≤ length d₁
  original_in p₁ = room₂ (number_line form_key 1) (number_line original_key o) (number_line result_key r) (number_line items_key (length xs / 3)) (item_lines (file_of xs text)) (number_line end_key (length xs / 3)) d sum p₁

  pub result_in : {d₁ d₂ : List ℕ} {a₁ a₂ : ℕ} → Put (number_line form_key 1) d 0 d₁ a₁ → Put (number_line original_key o) d₁ a₁ d₂ a₂ → a₂ + length (number_line result_key r) ≤ length d₂
  result_in p₁ p₂ = room₃ (number_line form_key 1) (number_line original_key o) (number_line result_key r) (number_line items_key (length xs / 3)) (item_lines (file_of xs text)) (number_line end_key (length xs / 3)) d sum p₁ p₂

  pub count_in : {d₁ d₂ d₃ : List ℕ} {a₁ a₂ a₃ : ℕ} → Put (number_line form_key 1) d 0 d₁ a₁ → Put (number_line original_key o) d₁ a₁ d₂ a₂ → Put (number_line result_key r) d₂ a₂ d₃ a₃ → a₃ + length (number_line items_key (length xs / 3)) ≤ length d₃
  count_in p₁ p₂ p₃ = room₄ (number_line form_key 1) (number_line original_key o) (number_line result_key r) (number_line items_key (length xs / 3)) (item_lines (file_of xs text)) (number_line end_key (length xs / 3)) d sum p₁ p₂ p₃

  pub items_in : {d₁ d₂ d₃ d₄ : List ℕ} {a₁ a₂ a₃ a₄ : ℕ} → Put (number_line form_key 1) d 0 d₁ a₁ → Put (number_line original_key o) d₁ a₁ d₂ a₂ → Put (number_line result_key r) d₂ a₂ d₃ a₃ → Put (number_line items_key (length xs / 3)) d₃ a₃ d₄ a₄ → a₄ + length (item_lines (file_of xs text)) ≤ length d₄
  items_in p₁ p₂ p₃ p₄ = room₅ (number_line form_key 1) (number_line original_key o) (number_line result_key r) (number_line items_key (length xs / 3)) (item_lines (file_of xs text)) (number_line end_key (length xs / 3)) d sum p₁ p₂ p₃ p₄

  module _ {d₁ d₂ d₃ d₄ d₅ : List ℕ} {a₁ a₂ a₃ a₄ a₅ : ℕ} (p₁ : Put (number_line form_key 1) d 0 d₁ a₁) (p₂ : Put (number_line original_key o) d₁ a₁ d₂ a₂) (p₃ : Put (number_line result_key r) d₂ a₂ d₃ a₃) (p₄ : Put (number_line items_key (length xs / 3)) d₃ a₃ d₄ a₄) (p₅ : Put (item_lines (file_of xs text)) d₄ a₄ d₅ a₅) where
    pub end_in : a₅ + length (number_line end_key (length xs / 3)) ≤ length d₅
    end_in = room₆ (number_line form_key 1) (number_line original_key o) (number_line result_key r) (number_line items_key (length xs / 3)) (item_lines (file_of xs text)) (number_line end_key (length xs / 3)) d sum p₁ p₂ p₃ p₄ p₅

    pub file_put : {d₆ : List ℕ} {a₆ : ℕ} → Put (number_line end_key (length xs / 3)) d₅ a₅ d₆ a₆ → Put (file_bytes xs text o r) d 0 d₆ a₆
    unfolding file_bytes head_lines
    file_put p₆ = run₆ (number_line form_key 1) (number_line original_key o) (number_line result_key r) (number_line items_key (length xs / 3)) (item_lines (file_of xs text)) (number_line end_key (length xs / 3)) d sum p₁ p₂ p₃ p₄ p₅ p₆

    pub file_long : {d₆ : List ℕ} {a₆ : ℕ} → Put (number_line end_key (length xs / 3)) d₅ a₅ d₆ a₆ → length d₆ ≡ length d
    file_long p₆ = put_length (file_put p₆) (omega (arith, fits'))
