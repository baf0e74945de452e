-- A run is read by the kind that its first byte names. Assumes nothing.
use mathlib.Core.Path.{◌≡◌}
use Prim.Native.Nat.{ℕ, ◌+◌, ◌/◌, ◌<◌, ◌≤◌}
use mathlib.Core.List.{List}
use lib.ListN.{length, drop, get_or, drop_of_length-le}
use Rattle.format.specs.Parse.{end, short_run, direct_run, patched_run, delta_run, by_kind, parse}
use Rattle.format.proofs.Runs.{parse-empty}
use Rattle.format.proofs.Reading.{byte-here}

module _ (s : List ℕ) (p : ℕ) where
  pub nothing-there : length s ≤ p → parse (drop p s) ≡ end
  nothing-there h = rw (drop_of_length-le s {i = p} h) parse-empty

  module _ (h : p < length s) where
    by-kind : (k : ℕ) → get_or s p 0 / 64 ≡ k → parse (drop p s) ≡ by_kind k (get_or s p 0) (drop (p + 1) s)
    unfolding parse
    by-kind k e = rw (byte-here s p h, e)

    pub is-short : get_or s p 0 / 64 ≡ 0 → parse (drop p s) ≡ short_run (get_or s p 0) (drop (p + 1) s)
    unfolding by_kind
    is-short e = by-kind 0 e

    pub is-direct : get_or s p 0 / 64 ≡ 1 → parse (drop p s) ≡ direct_run (get_or s p 0) (drop (p + 1) s)
    unfolding by_kind
    is-direct e = by-kind 1 e

    pub is-patched : get_or s p 0 / 64 ≡ 2 → parse (drop p s) ≡ patched_run (get_or s p 0) (drop (p + 1) s)
    unfolding by_kind
    is-patched e = by-kind 2 e

    pub is-delta : get_or s p 0 / 64 ≡ 3 → parse (drop p s) ≡ delta_run (get_or s p 0) (drop (p + 1) s)
    unfolding by_kind
    is-delta e = by-kind 3 e
