-- The next stored call, played: the records behind the head are the call's, and the two together are what a run writes for it. Assumes nothing.
use mathlib.Core.Path.{◌≡◌, sym, ap, ◌∙◌}
use mathlib.Core.List.{List, ◌++◌, append_assoc}
use Prim.Native.Nat.{ℕ, ◌+◌, ◌≤◌}
use native.Mathlib.Omega.{arith}
use lib.ListN.{length, take, drop, length-append, length-drop}
use lib.Seq.{length-take-le, drop-drop, drop_at}
use Rattle.rules.specs.Call.{Call, Answer}
use Rattle.rules.specs.Outcome.{outcome, sent_bytes}
use Rattle.rules.specs.History.{event}
use Rattle.rules.proofs.RefusedOrAccepted.{outcome_made}
use Rattle.room_laws.specs.View.{view_room}
use Rattle.relay_laws.specs.Calls.{written, Leaves}
use Rattle.relay.specs.Play.{entry_head, entry_bytes}
use Rattle.relay_laws.proofs.OutcomeLeaves.{made_written}
use Rattle.relay.proofs.LentParts.{from, from_is, length_from, back, back_is}
use Rattle.records.proofs.EntryLaws.{length_entry_head}

module _ (s n : ℕ) (b : List ℕ) (c : Call) (given : Answer) (out new b' : List ℕ) (long : 4 ≤ length out)
    (l : Leaves s n (outcome (view_room s n b) c) b (from 4 out) given b' new) (kept : length new ≡ length (from 4 out)) where
  abbrev records : List ℕ
  records = sent_bytes (outcome (view_room s n b) c).sent

  pub length_back : length (back 4 out new) ≡ length out
  length_back =
      let t = length-take-le 4 out long in
      let k = length_from 4 out in
      ap length (back_is 4 out new) ∙ length-append (take 4 out) new ∙ omega arith

  pub entry_count : written given ≡ length records
  entry_count = ap written l.answers ∙ made_written (outcome (view_room s n b) c) (outcome_made (view_room s n b) c)

  -- the output has room for the head and the records
  pub entry_fits : 4 + written given ≤ length (back 4 out new)
  entry_fits =
      let e = entry_count in
      let w : length new ≡ length records + length (drop (length records) (from 4 out)) =
      ap length l.writes ∙ length-append records (drop (length records) (from 4 out)) in
      let d = length-drop (length records) (from 4 out) in
      let k = length_from 4 out in
      let m = length_back in
      omega arith

  same_entry : entry_bytes (event (view_room s n b) c) ≡ entry_head given ++ records
  unfolding entry_bytes event
  same_entry = ap (λ (x : Answer). entry_head x ++ records) (sym l.answers)

  pub length_entry : length (entry_bytes (event (view_room s n b) c)) ≡ 4 + written given
  length_entry =
      let h = length_entry_head given in
      let e = entry_count in
      let a = length-append (entry_head given) records in
      ap length same_entry ∙ omega arith

  pub entry_written : entry_head given ++ drop 4 (back 4 out new)
      ≡ entry_bytes (event (view_room s n b) c) ++ drop (length (entry_bytes (event (view_room s n b) c))) out
  entry_written =
      let size : 4 + length records ≡ length (entry_bytes (event (view_room s n b) c)) = let e = entry_count in let f = length_entry in omega arith in
      ap (λ (x : List ℕ). entry_head given ++ drop 4 x) (back_is 4 out new)
      ∙ ap (λ (x : List ℕ). entry_head given ++ x) (drop_at (take 4 out) new 4 (length-take-le 4 out long))
      ∙ ap (λ (x : List ℕ). entry_head given ++ x) l.writes
      ∙ ap (λ (x : List ℕ). entry_head given ++ (records ++ drop (length records) x)) (from_is 4 out)
      ∙ ap (λ (x : List ℕ). entry_head given ++ (records ++ x)) (drop-drop (length records) 4 out)
      ∙ sym (append_assoc (entry_head given) records (drop (4 + length records) out))
      ∙ ap (λ (x : List ℕ). x ++ drop (4 + length records) out) (sym same_entry)
      ∙ ap (λ (m : ℕ). entry_bytes (event (view_room s n b) c) ++ drop m out) size
