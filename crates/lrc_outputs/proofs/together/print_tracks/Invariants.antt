use Rattle.std.proofs.Common.{◌≡◌, ◌+◌, ◌++◌, length, drop}
use Rattle.lrc_outputs.specs.Plays.{tracks_text}
use Rattle.lrc_outputs.proofs.together.print_tracks.Given as goal

-- what was printed so far, and what is printed of the tracks that are left, are all
abbrev pub invariant-loop-index : goal.invariant-loop-index
invariant-loop-index l = record {
  room : length l.room ≡ 56320;
  printed : l.text.items ++ tracks_text l.history (l.index + 1) (drop l.index l.tracks) ≡ tracks_text l.history 1 l.tracks;
}
