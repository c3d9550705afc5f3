use Rattle.std.proofs.Common.{inl, inr}
use Rattle.lrc_rules.proofs.StateLemmas.{homeless-words, words-homeless, missing-words, words-missing, found-home, home-found, held_on, none-beyond, held-beyond}
use Rattle.lrc_rules.proofs.laws.states.missing_fragments_in_words.Goals as goal

pub returns : goal.returns
returns c = record {
  homeless = λ st s f. (homeless-words st s f, words-homeless st s f);
  missing = λ nodes st s f. (missing-words nodes st s f, words-missing nodes st s f);
  seated = λ nodes st s f seated. (
    λ lost. elim (missing-words nodes st s f lost) [
      | inl bare ↦ inl bare
      | inr (within, (seat, is, away)) ↦ inr (within, (seat, found-home st.homes s f seat is, away))
    ],
    λ so. elim so [
      | inl bare ↦ words-missing nodes st s f (inl bare)
      | inr (within, (seat, among, away)) ↦
          words-missing nodes st s f (inr (within, (seat, home-found st.homes seated.one_home (held_on s f seat) among, away)))
    ],
  );
  no_other = none-beyond;
  none_beyond = held-beyond;
}
