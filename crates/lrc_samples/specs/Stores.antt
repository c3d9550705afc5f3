-- The nodes of stores that tests use.
use Rattle.std.specs.Prelude.{◌%◌, List, map}
use Rattle.std.specs.List.{range_with_len}
use Rattle.lrc_topology.specs.declared.NodeInfo.{NodeInfo}

-- twenty nodes with four slots each, every one in its own fault domain, in ten upgrade domains
unfoldable pub twenty : List NodeInfo
twenty = map (λ i. record { number = record { value = i }; fault = record { value = i }; upgrade = record { value = i % 10 }; slots = 4 }) (range_with_len 0 20)
