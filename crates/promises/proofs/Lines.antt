-- From the line to the refusal, line by line. Assumes nothing.
use Rattle.format.proofs.Common.{◌≡◌, ap, ◌∙◌, ℕ, ◌+◌, ◌%◌, ◌<◌, ◌≤◌, arith, true, false, List, [], ◌∷◌, ◌++◌, length, drop, lt-ltb}
use Rattle.format.specs.Fields.{width}
use Rattle.format.specs.Runs.{row_count, patches, too_large, out_of_place}
use Rattle.format.specs.Parse.{Reason, plain, cut_in, refused, code_of, rows_less, parse, into}
use Rattle.format.proofs.RunComplete.{parse-complete}
use Rattle.format.proofs.Streams.{into-refused}
use Rattle.format.proofs.Tests.{T_true, is_false}
use Rattle.promises.specs.Refusals
use Rattle.promises.specs.Refusals.{Table, refusal-1, refusal-2, refusal-3, refusal-4, refusal-5, refusal-7, refusal-8, CutLine}
use Rattle.promises.specs.Refusals.{TableGives, by_number, by_field}
use Rattle.promises.specs.Refusals.{TenthAbove, Unended, Headed, PatchedRun, DeltaRun, magnitude_bytes, list_from, list_to, entries, value_bytes, base_bytes}
use Rattle.promises.proofs.PatchCases.{too_large_lem, out-of-place}
use Rattle.promises.proofs.Fates.{tenth-above, unended}
use Rattle.promises.proofs.PatchedFate.{patched-2, patched-base, patched-values, patched-list, patched-all}
use Rattle.promises.proofs.PlainFates.{short_cut, direct-cut}
use Rattle.promises.proofs.DeltaFate.{behind-one, behind-two, delta-4, delta-body, behind-first, behind-both, magnitudes-cut}
use Rattle.promises.proofs.Fated.{header-cut, two, four}

-- ---- .. and from the line to the refusal

line-1 : (bs : List ℕ) → Refusals.Line1 bs → parse bs ≡ refused (plain 1)
line-1 [] (h, l) = absurd (omega arith)
line-1 (a ∷ s) (h, l) = header-cut a s l

line-2 : (bs : List ℕ) → Refusals.Line2 bs → parse bs ≡ refused (plain 2)
line-2 bs l = four (λ x. Refusals.Line2 x → parse x ≡ refused (plain 2)) (λ a b c e s l. patched-2 0 a b c e s l.0.is-kind l.1) bs l.0.header l

line-4 : (bs : List ℕ) → Refusals.Line4 bs → parse bs ≡ refused (plain 4)
line-4 bs l = two (λ x. Refusals.Line4 x → parse x ≡ refused (plain 4)) (λ a b s l. delta-4 0 a b s l.0.is-kind l.1 l.2) bs l.0.header l

line-5 : (bs : List ℕ) → Refusals.Line5 bs → parse bs ≡ refused (plain 5)
line-5 bs (Refusals.first-row r t) =
    two (λ x. DeltaRun x → TenthAbove 9 (drop 2 x) → parse x ≡ refused (plain 5))
    (λ a b s r t. delta-body 0 a b s r.headed.is-kind r.not-4 ∙ rw (tenth-above (cut_in 12 s) 9 s t)) bs r.headed.header r t
line-5 bs (Refusals.base-delta v rest r e h t) =
    two (λ x. DeltaRun x → drop 2 x ≡ v ++ rest → parse x ≡ refused (plain 5))
    (λ a b s r e. behind-first 0 a b s r.headed.is-kind r.not-4 v rest e h ∙ rw (tenth-above (cut_in 12 rest) 9 rest t)) bs r.headed.header r e

line-cut : (bs : List ℕ) {n field : ℕ} → CutLine bs n field → parse bs ≡ refused (cut_in n (drop field bs))
line-cut [] (Refusals.in-value h l) = absurd (omega (arith, h.header))
line-cut (a ∷ s) (Refusals.in-value h l) = short_cut 0 a s h.is-kind l
line-cut bs (Refusals.in-base r l) =
    four (λ x. PatchedRun x → length x < 4 + base_bytes x → parse x ≡ refused (cut_in 6 (drop 4 x)))
    (λ a b c e s r l. patched-base 0 a b c e s r.headed.is-kind r.not-2 l) bs r.headed.header r l
line-cut bs (Refusals.in-first-row r t) =
    two (λ x. DeltaRun x → Unended 10 (drop 2 x) → parse x ≡ refused (cut_in 12 (drop 2 x)))
    (λ a b s r t. delta-body 0 a b s r.headed.is-kind r.not-4 ∙ rw (unended (cut_in 12 s) 10 s t)) bs r.headed.header r t
line-cut bs (Refusals.in-base-delta v rest r e h t) =
    two (λ x. DeltaRun x → drop 2 x ≡ v ++ rest → parse x ≡ refused (cut_in 12 (drop (2 + length v) x)))
    (λ a b s r e. behind-first 0 a b s r.headed.is-kind r.not-4 v rest e h ∙ rw (unended (cut_in 12 rest) 10 rest t, behind-one a b s v rest e))
    bs r.headed.header r e
line-cut bs (Refusals.in_rows h l) =
    two (λ x. Headed 1 x → length x < 2 + value_bytes x → parse x ≡ refused (cut_in 13 (drop 2 x)))
    (λ a b s h l. direct-cut 0 a b s h.is-kind l) bs h.header h l
line-cut bs (Refusals.in-magnitudes v w rest r e h g l) =
    two (λ x. DeltaRun x → drop 2 x ≡ v ++ (w ++ rest) → length rest < magnitude_bytes (Refusals.code x) (Refusals.rows x)
    → parse x ≡ refused (cut_in 13 (drop (2 + (length v + length w)) x)))
    (λ a b s r e l. behind-both 0 a b s r.headed.is-kind r.not-4 v w rest e h g
    ∙ magnitudes-cut 0 a b s r.headed.is-kind r.not-4 (code_of a) v w rest l ∙ rw (behind-two a b s v w rest e))
    bs r.headed.header r e l
line-cut bs (Refusals.in-values r m l) =
    four (λ x. PatchedRun x → 4 + base_bytes x ≤ length x → length x < list_from x → parse x ≡ refused (cut_in 13 (drop (4 + base_bytes x) x)))
    (λ a b c e s r m l. patched-values 0 a b c e s r.headed.is-kind r.not-2 m l) bs r.headed.header r m l
line-cut bs (Refusals.in_list r m l) =
    four (λ x. PatchedRun x → list_from x ≤ length x → length x < list_to x → parse x ≡ refused (cut_in 14 (drop (list_from x) x)))
    (λ a b c e s r m l. patched-list 0 a b c e s r.headed.is-kind r.not-2 m l) bs r.headed.header r m l

line-3 : (bs : List ℕ) → Refusals.Line3 bs → parse bs ≡ refused (plain 3)
line-3 bs l =
    four (λ x. Refusals.Line3 x → parse x ≡ refused (plain 3))
    (λ a b c e s l.
    let (d, rest, f) = patched-all 0 a b c e s l.0.headed.is-kind l.0.not-2 l.1 in
    let t : too_large (width (code_of a)) (patches (width (c % 32)) (entries (a ∷ b ∷ c ∷ e ∷ s))) ≡ true = T_true _ ((too_large_lem _ _ _).1 l.2) in
    f ∙ rw t) bs l.0.headed.header l

line-7 : (bs : List ℕ) → Refusals.Line7 bs → parse bs ≡ refused (plain 7)
line-7 bs l =
    four (λ x. Refusals.Line7 x → parse x ≡ refused (plain 7))
    (λ a b c e s l.
    let (d, rest, f) = patched-all 0 a b c e s l.0.headed.is-kind l.0.not-2 l.1 in
    let t : too_large (width (code_of a)) (patches (width (c % 32)) (entries (a ∷ b ∷ c ∷ e ∷ s))) ≡ false = is_false _ (λ h. l.2 ((too_large_lem _ _ _).0 h)) in
    let u : out_of_place (width (c % 32)) (rows_less a b + 1) (entries (a ∷ b ∷ c ∷ e ∷ s)) ≡ true = T_true _ ((out-of-place _ _ _).1 l.3) in
    f ∙ rw (t, u)) bs l.0.headed.header l

line-8 : (places : ℕ) (bs : List ℕ) → Refusals.Line8 places bs → into places (parse bs) ≡ refused (plain 8)
unfolding into
line-8 places bs (d, rest, v, e, l) = rw (e, parse-complete d rest v, lt-ltb places (row_count d) l)

pub line : (places : ℕ) (bs : List ℕ) {r : Reason} → TableGives places bs r → into places (parse bs) ≡ refused r
line places bs t = by t
  where
    given : (r : Reason) → parse bs ≡ refused r → into places (parse bs) ≡ refused r
    given r e = ap (into places) e ∙ into-refused places r

    go : {n : ℕ} → Table places bs n → into places (parse bs) ≡ refused (plain n)
    go (refusal-1 l) = given _ (line-1 bs l)
    go (refusal-2 l) = given _ (line-2 bs l)
    go (refusal-3 l) = given _ (line-3 bs l)
    go (refusal-4 l) = given _ (line-4 bs l)
    go (refusal-5 l) = given _ (line-5 bs l)
    go (refusal-7 l) = given _ (line-7 bs l)
    go (refusal-8 l) = line-8 places bs l

    by : {r : Reason} → TableGives places bs r → into places (parse bs) ≡ refused r
    by (by_number t) = go t
    by (by_field l) = given _ (line-cut bs l)
