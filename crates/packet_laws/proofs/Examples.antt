-- Document 01, "Examples": those on packets, as facts of the definitions. Assumes nothing.
use mathlib.Core.Path.{◌≡◌, refl}
use mathlib.Core.List.{[], ◌∷◌}
use lib.ListN.{replicate}
use Rattle.refusal.specs.declared.Refusal.TheVariants.{PacketSize, WrongLength, ZeroPing}
use Rattle.packet_laws.specs.Read.{packet, refused, check}
use Rattle.packet_laws.specs.Table.{kind_of, body_of, size_right, relay_takes, length_right, ping_right, checked}
use Rattle.packet_laws.specs.FromClient.{oob_send, routed_data, from_client, relay_read}
use Rattle.wire.specs.Numbers.{number_of}

-- P10: "packet 04 with eight zero bytes: 7"
p10 : relay_read (4 ∷ replicate 8 0) ≡ refused ZeroPing
unfolding relay_read checked check kind_of body_of size_right relay_takes length_right ping_right number_of
p10 = refl

-- P11: "packet of one byte 10: 6"
p11 : relay_read (16 ∷ []) ≡ refused WrongLength
unfolding relay_read checked check kind_of body_of size_right relay_takes length_right
p11 = refl

-- "Out-of-band of 34 and 1,057 bytes accepted; 33 and 1,058 refused with 6."
oob_34 : relay_read (6 ∷ replicate 33 0) ≡ packet (oob_send (replicate 32 0) (0 ∷ []))
unfolding relay_read checked check kind_of body_of size_right relay_takes length_right ping_right from_client
oob_34 = refl

oob_1057 : relay_read (6 ∷ replicate 1056 0) ≡ packet (oob_send (replicate 32 0) (replicate 1024 0))
unfolding relay_read checked check kind_of body_of size_right relay_takes length_right ping_right from_client
oob_1057 = refl

oob_33 : relay_read (6 ∷ replicate 32 0) ≡ refused WrongLength
unfolding relay_read checked check kind_of body_of size_right relay_takes length_right
oob_33 = refl

oob_1058 : relay_read (6 ∷ replicate 1057 0) ≡ refused WrongLength
unfolding relay_read checked check kind_of body_of size_right relay_takes length_right
oob_1058 = refl

-- "Packet of 2,032 data accepted; 2,033 refused with 4."
data_2032 : relay_read (16 ∷ replicate 2031 0) ≡ packet (routed_data 16 (replicate 2031 0))
unfolding relay_read checked check kind_of body_of size_right relay_takes length_right ping_right from_client
data_2032 = refl

data_2033 : relay_read (16 ∷ replicate 2032 0) ≡ refused PacketSize
unfolding relay_read checked check kind_of body_of size_right relay_takes
data_2033 = refl
