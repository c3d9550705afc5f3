-- The test whether two replies are one decides it.
use Rattle.std.proofs.Common.{◌≡◌, ap, refl}
use Rattle.std.specs.Bool.{Decides}
use Rattle.std.proofs.lemmas.Bool.Decides.{Decides-and, Decides-like, Decides-eqb}
use Rattle.std.proofs.lemmas.Slice.Eq.{slice_eq-Decides}
use Rattle.lrc_records.specs.declared.seat.LrcSeat.{LrcSeat}
use Rattle.lrc_records.specs.declared.lease.LrcLease.{LrcLease}
use Rattle.lrc_records.specs.declared.reply.LrcReply.{LrcReply}
use Rattle.lrc_records.specs.contracts.seat.LrcSeatPartialEq.TheImpl as seat
use Rattle.lrc_records.specs.contracts.lease.LrcLeasePartialEq.TheImpl as lease
use Rattle.lrc_records.specs.contracts.reply.LrcReplyPartialEq.TheImpl as reply

pub seat-Decides : (a b : LrcSeat) → Decides (seat.eq-value.it a b) (a ≡ b)
seat-Decides a b = Decides-like _
    (λ h i. record { node = h.0 i; slot = h.1 i })
    (λ e. (ap (λ (s : LrcSeat). s.node) e, ap (λ (s : LrcSeat). s.slot) e))
    (Decides-and _ _ (Decides-eqb a.node b.node) (Decides-eqb a.slot b.slot))

same_lease : (a b : LrcLease) → (a.stripe ≡ b.stripe) × ((a.fragment ≡ b.fragment) × ((a.holder ≡ b.holder)
    × ((a.target ≡ b.target) × ((a.epoch ≡ b.epoch) × (a.expiry ≡ b.expiry))))) → a ≡ b
same_lease a b h i = record {
  stripe = h.0 i;
  fragment = h.1.0 i;
  holder = h.1.1.0 i;
  target = h.1.1.1.0 i;
  epoch = h.1.1.1.1.0 i;
  expiry = h.1.1.1.1.1 i;
}

parts_lease : (a b : LrcLease) → a ≡ b → (a.stripe ≡ b.stripe) × ((a.fragment ≡ b.fragment)
    × ((a.holder ≡ b.holder) × ((a.target ≡ b.target) × ((a.epoch ≡ b.epoch) × (a.expiry ≡ b.expiry)))))
parts_lease a b e = (
  ap (λ (l : LrcLease). l.stripe) e,
  (
    ap (λ (l : LrcLease). l.fragment) e,
    (
      ap (λ (l : LrcLease). l.holder) e,
      (
        ap (λ (l : LrcLease). l.target) e,
        (
          ap (λ (l : LrcLease). l.epoch) e,
          ap (λ (l : LrcLease). l.expiry) e,
        ),
      ),
    ),
  ),
)

pub lease-Decides : (a b : LrcLease) → Decides (lease.eq-value.it a b) (a ≡ b)
lease-Decides a b = Decides-like _ (same_lease a b) (parts_lease a b)
    (Decides-and _ _ (Decides-eqb a.stripe b.stripe)
    (Decides-and _ _ (Decides-eqb a.fragment b.fragment)
    (Decides-and _ _ (Decides-eqb a.holder b.holder)
    (Decides-and _ _ (seat-Decides a.target b.target)
    (Decides-and _ _ (Decides-eqb a.epoch b.epoch) (Decides-eqb a.expiry b.expiry))))))

same_reply : (a b : LrcReply) → (a.kind ≡ b.kind) × ((a.refusal ≡ b.refusal) × ((a.repair ≡ b.repair)
    × ((a.sources ≡ b.sources) × ((a.reserved ≡ b.reserved) × ((a.detail ≡ b.detail) × ((a.clock ≡ b.clock) × ((a.ended ≡ b.ended)
    × ((a.reserved_number ≡ b.reserved_number) × ((a.lease ≡ b.lease) × (a.seats ≡ b.seats)))))))))) → a ≡ b
same_reply a b h i = record {
  kind = h.0 i;
  refusal = h.1.0 i;
  repair = h.1.1.0 i;
  sources = h.1.1.1.0 i;
  reserved = h.1.1.1.1.0 i;
  detail = h.1.1.1.1.1.0 i;
  clock = h.1.1.1.1.1.1.0 i;
  ended = h.1.1.1.1.1.1.1.0 i;
  reserved_number = h.1.1.1.1.1.1.1.1.0 i;
  lease = h.1.1.1.1.1.1.1.1.1.0 i;
  seats = h.1.1.1.1.1.1.1.1.1.1 i;
}

parts_reply : (a b : LrcReply) → a ≡ b → (a.kind ≡ b.kind) × ((a.refusal ≡ b.refusal) × ((a.repair ≡ b.repair)
    × ((a.sources ≡ b.sources) × ((a.reserved ≡ b.reserved) × ((a.detail ≡ b.detail) × ((a.clock ≡ b.clock) × ((a.ended ≡ b.ended)
    × ((a.reserved_number ≡ b.reserved_number) × ((a.lease ≡ b.lease) × (a.seats ≡ b.seats))))))))))
parts_reply a b e = (
  ap (λ (r : LrcReply). r.kind) e,
  (
    ap (λ (r : LrcReply). r.refusal) e,
    (
      ap (λ (r : LrcReply). r.repair) e,
      (
        ap (λ (r : LrcReply). r.sources) e,
        (
          ap (λ (r : LrcReply). r.reserved) e,
          (
            ap (λ (r : LrcReply). r.detail) e,
            (
              ap (λ (r : LrcReply). r.clock) e,
              (
                ap (λ (r : LrcReply). r.ended) e,
                (
                  ap (λ (r : LrcReply). r.reserved_number) e,
                  (
                    ap (λ (r : LrcReply). r.lease) e,
                    ap (λ (r : LrcReply). r.seats) e,
                  ),
                ),
              ),
            ),
          ),
        ),
      ),
    ),
  ),
)

pub reply-Decides : (a b : LrcReply) → Decides (reply.eq-value.it a b) (a ≡ b)
reply-Decides a b = Decides-like _ (same_reply a b) (parts_reply a b)
    (Decides-and _ _ (Decides-eqb a.kind b.kind)
    (Decides-and _ _ (Decides-eqb a.refusal b.refusal)
    (Decides-and _ _ (Decides-eqb a.repair b.repair)
    (Decides-and _ _ (slice_eq-Decides Decides-eqb a.sources b.sources _ refl)
    (Decides-and _ _ (slice_eq-Decides Decides-eqb a.reserved b.reserved _ refl)
    (Decides-and _ _ (Decides-eqb a.detail b.detail)
    (Decides-and _ _ (Decides-eqb a.clock b.clock)
    (Decides-and _ _ (Decides-eqb a.ended b.ended)
    (Decides-and _ _ (Decides-eqb a.reserved_number b.reserved_number)
    (Decides-and _ _ (lease-Decides a.lease b.lease)
    (slice_eq-Decides seat-Decides a.seats b.seats _ refl)))))))))))
