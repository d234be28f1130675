-- The exported readers of packets. Each contract is what stands here, and asks nothing of the caller. Assumes nothing.
use Rattle.packet_laws.specs.FromClient.{relay_read, relay_key}
use Rattle.packet_laws.specs.FromRelay.{client_read, client_key}
use Rattle.banavoge_laws.specs.Answers.{OfBytes}
use Rattle.banavoge_laws.specs.Fields.{places, ReadsFields, ReadsKey}
use Rattle.fields.specs.Fields.{client_fields, relay_fields}
use Rattle.banavoge.proofs.readers.banavoge_relay_read.Kinds as relay-read-kinds
use Rattle.banavoge.proofs.readers.banavoge_relay_read.Reads as relay-read-reads
use Rattle.banavoge.proofs.readers.banavoge_client_read.Kinds as client-read-kinds
use Rattle.banavoge.proofs.readers.banavoge_client_read.Reads as client-read-reads
use Rattle.banavoge.proofs.readers.banavoge_relay_key.Kinds as relay-key-kinds
use Rattle.banavoge.proofs.readers.banavoge_relay_key.Reads as relay-key-reads
use Rattle.banavoge.proofs.readers.banavoge_client_key.Kinds as client-key-kinds
use Rattle.banavoge.proofs.readers.banavoge_client_key.Reads as client-key-reads
use Rattle.contracts.specs.Promises.{Promises}

pub banavoge_relay_read_lem : Promises 5 relay-read-kinds.ps relay-read-kinds.r relay-read-reads.Asked relay-read-reads.Post
    (λ κs (packet, (number, (ping, (start, (length, _))))) answer (_, (number', (ping', (start', (length', _))))).
    OfBytes packet.now (ReadsFields client_fields (relay_read packet.now) answer (places number.now ping.now start.now length.now) (places number'.now ping'.now start'.now length'.now)))
banavoge_relay_read_lem = record { asks_nothing = λ κs args. tt; gives = λ κs args answer left p. p }

pub banavoge_client_read_lem : Promises 5 client-read-kinds.ps client-read-kinds.r client-read-reads.Asked client-read-reads.Post
    (λ κs (packet, (number, (ping, (start, (length, _))))) answer (_, (number', (ping', (start', (length', _))))).
    OfBytes packet.now (ReadsFields relay_fields (client_read packet.now) answer (places number.now ping.now start.now length.now) (places number'.now ping'.now start'.now length'.now)))
banavoge_client_read_lem = record { asks_nothing = λ κs args. tt; gives = λ κs args answer left p. p }

pub banavoge_relay_key_lem : Promises 2 relay-key-kinds.ps relay-key-kinds.r relay-key-reads.Asked relay-key-reads.Post
    (λ κs (packet, (key, _)) answer (_, (key', _)).
    ReadsKey client_fields relay_key (relay_read packet.now) answer key.now key'.now)
banavoge_relay_key_lem = record { asks_nothing = λ κs args. tt; gives = λ κs args answer left p. p }

pub banavoge_client_key_lem : Promises 2 client-key-kinds.ps client-key-kinds.r client-key-reads.Asked client-key-reads.Post
    (λ κs (packet, (key, _)) answer (_, (key', _)).
    ReadsKey relay_fields client_key (client_read packet.now) answer key.now key'.now)
banavoge_client_key_lem = record { asks_nothing = λ κs args. tt; gives = λ κs args answer left p. p }
