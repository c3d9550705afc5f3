-- Records that are read.
use Rattle.std.proofs.Common.{◌≡◌, ℕ, ◌<◌, List, [], ◌∷◌, ◌++◌, zero, suc, length, get_or, map, take, replicate, sym, ap, ◌∙◌, arith, length-append}
use Rattle.std.proofs.Math.Seq.{take-append_seam}
use Rattle.lrc_code.specs.declared.numbers.Fragment.{Fragment}
use Rattle.lrc_topology.specs.declared.seat.Seat.{Seat}
use Rattle.lrc_terms.specs.declared.lease.Lease.{Lease}
use Rattle.lrc_rules.specs.declared.reply.Reply.{Reply}
use Rattle.lrc_rules.specs.declared.reply.Reply.TheVariants.{Placed, Placed6, Dropped, Granted, Idle, Ended, Changed, Refused, Ticked}
use Rattle.lrc_records.specs.Replies.{encoded_seat, no_seat, encoded_lease, encoded_reply, blank_reply}
use Rattle.lrc_records.specs.declared.seat.LrcSeat.{LrcSeat}
use Rattle.lrc_records.specs.declared.reply.LrcReply.{LrcReply}

-- the numbers of fragments are below 16, and so is the 0 that is read past them
pub below_16 : (fs : List Fragment) (k : ℕ) → get_or (map (λ f. f.value) fs) k 0 < 16
below_16 [] k = omega arith
below_16 (f ∷ fs) zero = f.in_range
below_16 (f ∷ fs) (suc k) = below_16 fs k

-- the record of a grant has the record of a lease
pub lease_of : (reply : Reply) (r : LrcReply) → encoded_reply reply ≡ r → r.kind ≡ 3 → (lease : Lease) × (encoded_lease lease ≡ r.lease)
lease_of (Granted lease kind) r e three = (record lease { expiry = 0 }, ap (λ (x : LrcReply). x.lease) e)
lease_of (Placed seats) r e three = absurd (omega (arith, ap (λ (x : LrcReply). x.kind) e))
lease_of (Placed6 seats) r e three = absurd (omega (arith, ap (λ (x : LrcReply). x.kind) e))
lease_of Dropped r e three = absurd (omega (arith, ap (λ (x : LrcReply). x.kind) e))
lease_of Idle r e three = absurd (omega (arith, ap (λ (x : LrcReply). x.kind) e))
lease_of Ended r e three = absurd (omega (arith, ap (λ (x : LrcReply). x.kind) e))
lease_of Changed r e three = absurd (omega (arith, ap (λ (x : LrcReply). x.kind) e))
lease_of (Refused refusal) r e three = absurd (omega (arith, ap (λ (x : LrcReply). x.kind) e))
lease_of (Ticked clock ended) r e three = absurd (omega (arith, ap (λ (x : LrcReply). x.kind) e))

front : {X : Type 0} (xs ys zs : List X) (n : ℕ) → xs ++ zs ≡ ys → length xs ≡ n → take n ys ≡ xs
front xs ys zs n e long = sym (ap (λ l. take n l) e) ∙ (ap (λ k. take k (xs ++ zs)) (sym long) ∙ take-append_seam xs zs)

-- the first ten seats of a narrow stripe's record are all of its seats
pub ten_seats : (reply : Reply) (r : LrcReply) (seats : List Seat) → encoded_reply reply ≡ r → r.kind ≡ 9 → length r.seats ≡ 16
    → map encoded_seat seats ≡ take 10 r.seats → encoded_reply (Placed6 seats) ≡ r
ten_seats (Placed6 all) r seats e nine long read =
    let same : map encoded_seat all ++ replicate 6 no_seat ≡ r.seats = ap (λ (x : LrcReply). x.seats) e in
    let ten : length (map encoded_seat all) ≡ 10 = omega (arith, ap length same, length-append (map encoded_seat all) (replicate 6 no_seat), long) in
    ap (λ (front : List LrcSeat). record blank_reply { kind = 9; seats = front ++ replicate 6 no_seat }) (read ∙ front (map encoded_seat all) r.seats (replicate 6 no_seat) 10 same ten) ∙ e
ten_seats (Placed all) r seats e nine long read = absurd (omega (arith, ap (λ (x : LrcReply). x.kind) e))
ten_seats (Granted lease kind) r seats e nine long read = absurd (omega (arith, ap (λ (x : LrcReply). x.kind) e))
ten_seats Dropped r seats e nine long read = absurd (omega (arith, ap (λ (x : LrcReply). x.kind) e))
ten_seats Idle r seats e nine long read = absurd (omega (arith, ap (λ (x : LrcReply). x.kind) e))
ten_seats Ended r seats e nine long read = absurd (omega (arith, ap (λ (x : LrcReply). x.kind) e))
ten_seats Changed r seats e nine long read = absurd (omega (arith, ap (λ (x : LrcReply). x.kind) e))
ten_seats (Refused refusal) r seats e nine long read = absurd (omega (arith, ap (λ (x : LrcReply). x.kind) e))
ten_seats (Ticked clock ended) r seats e nine long read = absurd (omega (arith, ap (λ (x : LrcReply). x.kind) e))
