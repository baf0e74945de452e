-- The words of the libraries that most proofs use, passed on by one module: a proof names here what it takes, in a line or two.
pub use mathlib.Core.Path.{◌≡◌, ◌∙◌, sym, refl, ap, subst, ap₂}
pub use Prim.Native.Nat.{ℕ, ◌+◌, ◌≤◌, ◌-◌, ◌<◌, suc, ◌*◌, zero, ◌/◌, ◌^◌, ◌%◌, min, max}
pub use lib.ListN.{length, drop, take, get_or, length-append, length-drop, drop_of_length-le, length-set, length-map, replicate}
pub use lib.ListN.{take-append-drop, set, length-take, length-replicate, get_or-append as List·getD-append, get_or-eq_default as List·getD-eq-default, get_or-replicate}
pub use lib.ListN.{get_or-map as List·getD-map, replicate-append-replicate}
pub use mathlib.Core.List.Memᴰ.{head as List·Memᴰ·head}
pub use mathlib.Core.List.{List, [], ◌∷◌, ◌++◌, map, append_assoc, append-nil, map-append, Memᴰ as List-as-Memᴰ, cons≢nil}
pub use mathlib.Core.List.Memᴰ.{not-nil as List·Memᴰ·not-nil}
pub use mathlib.Core.List.Memᴰ.{tail as List·Memᴰ·tail}
pub use mathlib.Core.Bool.{Bool, true, false, not, ◌&&◌, ◌||◌, and-false, or-true, and-true}
pub use native.Mathlib.Omega.{arith}
pub use borrow.Author.Rules.{rules, sfits_of}
pub use borrow.Author.Tests.{le-ltb, lt-ltb, ne_eqb, eq-eqb, le-leb, lt-leb, not-false, ltb-false, not-true, ltb-true, eqb-true, leb-true}
pub use borrow.Author.Tests.{leb-false, eqb-false}
pub use lib.Seq.{length-take-le, drop-drop, take_at, drop-cons, take_all, drop_at, drop-append-add, get_or-drop, take-append-le, take-add}
pub use lib.Seq.{drop-append-le, get_or-take, take-suc, take-nil, drop-append_seam, paste, append_snoc, sets-eq, take-append_seam}
pub use lib.Seq.{take-suc-set, take-append-add, paste-zero, take-length, take-take, ext_get_or, drop-set-lt, paste-suc, drop-nil, take-paste}
pub use lib.Seq.{set_at, drop-length, get_or-set_same, get_or-set_other, slice, slice-cons, slice_empty}
pub use lib.Dec.{ltb, eqb, leb, T, eqb→eq, leb→le, ltb→lt, le→leb, T_not, lt→ltb, nltb→le, eqb_refl, nleb→lt, not_T}
pub use lib.IntN.{ℤ, pos, negsuc, nat_abs, ◌+ℤ◌, sub_ℕ, +ℤ_idr}
pub use native.Mathlib.Nat.{le_refl, add-zero, zero-add, zero-lt-suc, mod-lt, sub-zero, mod-eq_of_lt, mul-le-mul, lt_of_lt_of_le, pow-suc}
pub use native.Mathlib.Nat.{mul-le-mul_right, div-lt_iff_lt-mul, zero-mul, add_assoc, mod-add-mod, add-mod-mod, one-mul, pow-zero, add_comm}
pub use native.Mathlib.Nat.{div-one, lt_of_le_of_lt, min-eq_left, div-add-mod', mul_assoc, le_of_lt, suc-mul, pow-le-pow_right}
pub use native.Mathlib.Nat.{mul-add-mod_self_right, mul-add-div_right, add-sub_cancel_left, le_trans, sub_self, one-le-pow, suc-add}
pub use native.Mathlib.Decide.{dec_lt, dec_le, ℕ_discrete}
pub use mathlib.Core.Logic.{◌≢◌, ◌↔◌, inl, inr, ◌⊎◌, ⊎_elim}
pub use native.Mathlib.Numerals.{add-one}
pub use mir.Facts.{to_z-of_z, eqb_no, to_z_pos}
pub use mir.Syntax.{w64, w32}
pub use mir.Val.{SFits, to_z, of_z}
pub use lib.Pow.{pow_pos, pow_mono, pow-add, high, shr_lt, low, split, shr-shr}
