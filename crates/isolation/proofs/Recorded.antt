-- What facts on the record that hold by computation share: `recorded` opens every definition of `Record`.
use Rattle.rules.specs.Transcript.{is_client}
use Rattle.isolation.specs.Record.{entry_if, by_key, other_packet, other_call, if_accepted, made_by, of_tick, entries_by, entries, record_for, key_unless, strike, without_own, handed_if, handed, packets_for, answer_if, answers_for, asks_for, turns_away, zero_for_c}

unfoldable pub recorded : Unit {0}
unfolding entry_if by_key other_packet other_call if_accepted made_by of_tick entries_by entries record_for key_unless strike without_own is_client handed_if handed packets_for answer_if answers_for asks_for turns_away zero_for_c
recorded = tt
