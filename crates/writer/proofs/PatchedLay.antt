-- From what the patched writer has measured and written to the bytes of the run that its header describes. Assumes nothing.
use Rattle.format.proofs.Common.{◌≡◌, refl, sym, ap, ◌∙◌, ℕ, ◌+◌, ◌*◌, ◌<◌, ◌≤◌, arith, List, ◌++◌, append_assoc, length, take, drop}
use Rattle.format.proofs.Common.{length-append, length-take-le, lt-ltb, le-ltb}
use Rattle.format.specs.declared.Kind.TheVariants as kind
use Rattle.format.specs.Answers.{Answer, ran, refused_at}
use Rattle.format.specs.Digits.{digits}
use Rattle.format.specs.Fields.{width, bytes_for, block_bytes}
use Rattle.format.specs.Runs.{entry_width, layout}
use Rattle.format.specs.Writing.{padded}
use Rattle.format.specs.PatchedWriting.{Parts, run}
use Rattle.format.proofs.Digits.{length_digits}
use Rattle.format.proofs.Fields.{length-block}
use Rattle.writer.specs.declared.patched_base.Header.{Header}
use Rattle.writer.specs.PatchedBase.{sign_magnitude, headed, head_bytes, Ready, PatchedLaid}
use Rattle.writer.proofs.Pieces.{behind}

-- the widths that a header names, and the bytes of both blocks
pub record Sized (h : Header) (bits entry values list : ℕ) : Type 0 where
  pub bits_is : bits ≡ width h.code
  pub entry-is : entry ≡ entry_width h.patch h.gap
  pub values-are : values ≡ bytes_for (h.rows.rows * bits)
  pub list-is : list ≡ bytes_for (h.entries * entry)

module _ {h : Header} {base : ℕ} {vals list : List ℕ} {bits entry v l : ℕ} (k : Ready h base vals list) (s : Sized h bits entry v l) where
  abbrev d : Parts
  d = headed h base vals list

  abbrev base-is : List ℕ
  base-is = digits 256 h.base.bytes (sign_magnitude base h.base.bytes)

  abbrev values-block : List ℕ
  values-block = block_bytes bits h.rows.rows (padded (take h.rows.rows vals))

  abbrev list-block : List ℕ
  list-block = block_bytes entry h.entries (padded (take h.entries list))

  flat : layout (run d) ≡ head_bytes h ++ (base-is ++ (values-block ++ list-block))
  unfolding layout
  flat =
      rw (
        length-take-le h.rows.rows vals k.rows-there,
        length-take-le h.entries list k.entries-there,
        length_digits 256 h.base.bytes (sign_magnitude base h.base.bytes),
        s.bits_is,
        s.entry-is,
      )

  lay-is : layout (run d) ≡ ((head_bytes h ++ base-is) ++ values-block) ++ list-block
  lay-is = flat ∙ sym (append_assoc (head_bytes h ++ base-is) values-block list-block ∙ append_assoc (head_bytes h) base-is (values-block ++ list-block))

  lay-size : length (layout (run d)) ≡ 4 + h.base.bytes + v + l
  lay-size =
      ap (λ (t : List ℕ). length t) lay-is
      ∙ simp (
        length-append,
        length_digits 256 h.base.bytes (sign_magnitude base h.base.bytes),
        length-block bits h.rows.rows (padded (take h.rows.rows vals)),
        length-block entry h.entries (padded (take h.entries list)),
      )
      (omega (arith, s.values-are, s.list-is))

  pub no_room : (out : List ℕ) (r : Answer) → length out < 4 + h.base.bytes + v + l → r ≡ refused_at 8 0 → PatchedLaid d out out r
  no_room out r f e =
      let t = lt-ltb (length out) (length (layout (run d))) (rw lay-size f) in
      record { answer = rw t e; places = rw t }

  pub laid : (out o₁ o₂ o₃ o₄ : List ℕ) (r : Answer) → 4 + h.base.bytes + v + l ≤ length out
      → r ≡ ran kind.PatchedBase bits h.rows.rows (4 + h.base.bytes + v + l)
      → o₁ ≡ head_bytes h ++ drop 4 out → o₂ ≡ take 4 o₁ ++ base-is ++ drop (4 + h.base.bytes) o₁
      → o₃ ≡ take (4 + h.base.bytes) o₂ ++ values-block ++ drop (4 + h.base.bytes + bytes_for (h.rows.rows * bits)) o₂
      → o₄ ≡ take (4 + h.base.bytes + v) o₃ ++ list-block ++ drop (4 + h.base.bytes + v + bytes_for (h.entries * entry)) o₃ → PatchedLaid d out o₄ r
  laid out o₁ o₂ o₃ o₄ r f e e₁ e₂ e₃ e₄ =
      let t = le-ltb (length out) (length (layout (run d))) (rw lay-size f) in
      let n₁ : 4 + h.base.bytes ≡ length (head_bytes h ++ base-is) =
      simp (length_digits 256 h.base.bytes (sign_magnitude base h.base.bytes)) (omega arith) in
      let n₂ : 4 + h.base.bytes + v ≡ length ((head_bytes h ++ base-is) ++ values-block) =
      simp (
        length-append,
        length_digits 256 h.base.bytes (sign_magnitude base h.base.bytes),
        length-block bits h.rows.rows (padded (take h.rows.rows vals)),
      ) (omega (arith, s.values-are)) in
      let p₁ = behind (head_bytes h) base-is out o₁ o₂ 4 h.base.bytes refl
      (length_digits 256 h.base.bytes (sign_magnitude base h.base.bytes)) e₁ e₂ in
      let p₂ = behind (head_bytes h ++ base-is) values-block out o₂ o₃ (4 + h.base.bytes) _ n₁
      (length-block bits h.rows.rows (padded (take h.rows.rows vals))) p₁ e₃ in
      let p₃ = behind ((head_bytes h ++ base-is) ++ values-block) list-block out o₃ o₄ (4 + h.base.bytes + v) _ n₂
      (length-block entry h.entries (padded (take h.entries list))) p₂ e₄ in
      record {
        answer = rw t (rw (length-take-le h.rows.rows vals k.rows-there, lay-size, ← s.bits_is) e);
        places = rw t (rw lay-is p₃);
      }
