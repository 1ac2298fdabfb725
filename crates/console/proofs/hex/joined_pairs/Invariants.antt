use Rattle.std.proofs.Common.{◌≡◌, ◌%◌, length, vec_items}
use Rattle.std.specs.Slice.Iter.{chunks_exact_rest, chunks_exact_size}
use Rattle.console.specs.Hex.{paired}
use Rattle.request.proofs.Decimals.{prepend}
use Rattle.console.proofs.hex.joined_pairs.Given as goal

abbrev pub invariant-loop-pair : goal.invariant-loop-pair
invariant-loop-pair l =
    (chunks_exact_size l.pair-iterator ≡ 2)
    × (paired l.values ≡ prepend (vec_items l.bytes) (paired (chunks_exact_rest l.pair-iterator)))
    × (length (chunks_exact_rest l.pair-iterator) % 2 ≡ 0)
