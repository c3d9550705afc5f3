-- The text of a reply follows from its record.
use Rattle.std.proofs.Common.{◌≡◌, ℕ, ◌-◌, if◌then◌else◌, nat_eq, List, [], ◌∷◌, ◌++◌, length, take, map, replicate, codes, decimal, refl, sym, ap, ◌∙◌, arith, length-append}
use Rattle.std.proofs.Math.Seq.{take-append_seam}
use Rattle.lrc_code.specs.declared.numbers.Fragment.{Fragment}
use Rattle.lrc_topology.specs.declared.seat.Seat.{Seat}
use Rattle.lrc_rules.specs.declared.kind.Kind.{Kind}
use Rattle.lrc_rules.specs.declared.kind.Kind.TheVariants.{Local, Local3, Global, Move}
use Rattle.lrc_rules.specs.declared.reply.Reply.{Reply}
use Rattle.lrc_rules.specs.declared.reply.Reply.TheVariants.{Placed, Placed6, Dropped, Granted, Idle, Ended, Changed, Refused, Ticked}
use Rattle.lrc_rules.specs.declared.refusal.Refusal.{Refusal}
use Rattle.lrc_rules.specs.declared.refusal.Refusal.TheVariants as refusal
use Rattle.lrc_records.specs.declared.seat.LrcSeat.{LrcSeat}
use Rattle.lrc_records.specs.declared.lease.LrcLease.{LrcLease}
use Rattle.lrc_records.specs.declared.reply.LrcReply.{LrcReply}
use Rattle.lrc_records.specs.Replies.{encoded_seat, no_seat, encoded_repair, encoded_refusal, encoded_reply}
use Rattle.lrc_text.specs.Texts.{seat_text, spaced_words, lease_text, kind_text, refusal_text, reply_text}

-- ---- the texts of records

abbrev text_of_seat : LrcSeat → List ℕ
text_of_seat s = decimal s.node ++ codes ":" ++ decimal s.slot

abbrev text_of_lease : LrcLease → List ℕ
text_of_lease l = decimal l.stripe ++ codes " " ++ decimal l.fragment ++ codes " " ++ text_of_seat l.target ++ codes " epoch " ++ decimal l.epoch

abbrev text_of_repair : ℕ × List ℕ → List ℕ
text_of_repair r =
    if nat_eq r.0 1 then codes "local" ++ spaced_words (map decimal r.1) else (if nat_eq r.0 2 then codes "global"
    else (if nat_eq r.0 3 then codes "move" else codes "local" ++ spaced_words (map decimal (take (length r.1 - 3) r.1))))

abbrev text_of_refusal : ℕ × ℕ → List ℕ
text_of_refusal r =
    if nat_eq r.0 101 then codes "101" else (if nat_eq r.0 102 then codes "102" else (if nat_eq r.0 103 then codes "103 " ++ decimal r.1
    else (if nat_eq r.0 104 then codes "104" else (if nat_eq r.0 105 then codes "105" else (if nat_eq r.0 106 then codes "106"
    else (if nat_eq r.0 107 then codes "107 " ++ decimal r.1 else (if nat_eq r.0 108 then codes "108"
    else (if nat_eq r.0 109 then codes "109 " ++ decimal r.1 else (if nat_eq r.0 110 then codes "110 " ++ decimal r.1
    else (if nat_eq r.0 111 then codes "111" else (if nat_eq r.0 112 then codes "112" else (if nat_eq r.0 113 then codes "113"
    else (if nat_eq r.0 114 then codes "114 " ++ decimal r.1 else (if nat_eq r.0 115 then codes "115 " ++ decimal r.1
    else (if nat_eq r.0 116 then codes "116" else codes "117 " ++ decimal r.1)))))))))))))))

abbrev text_of_record : LrcReply → List ℕ
text_of_record r =
    if nat_eq r.kind 1 then codes "placed" ++ spaced_words (map text_of_seat r.seats) else (if nat_eq r.kind 2 then codes "dropped"
    else (if nat_eq r.kind 3 then codes "granted " ++ text_of_lease r.lease ++ codes " " ++ text_of_repair (r.repair, r.sources)
    else (if nat_eq r.kind 4 then codes "idle" else (if nat_eq r.kind 5 then codes "ended" else (if nat_eq r.kind 6 then codes "changed"
    else (if nat_eq r.kind 7 then codes "refused " ++ text_of_refusal (r.refusal, r.detail)
    else (if nat_eq r.kind 8 then codes "ticked " ++ decimal r.clock ++ codes " " ++ decimal r.ended
    else codes "placed" ++ spaced_words (map text_of_seat (take (length r.seats - 6) r.seats)))))))))

-- ---- which are those of the replies

seats_same : (seats : List Seat) → map text_of_seat (map encoded_seat seats) ≡ map seat_text seats
seats_same [] = refl
seats_same (s ∷ seats) = ap (λ ws. seat_text s ∷ ws) (seats_same seats)

sources_same : (fs : List Fragment) → map decimal (map (λ f. f.value) fs) ≡ map (λ f. decimal f.value) fs
sources_same [] = refl
sources_same (f ∷ fs) = ap (λ ws. decimal f.value ∷ ws) (sources_same fs)

without_rest : {X : Type 0} (xs ys : List X) (n : ℕ) → length ys ≡ n → take (length (xs ++ ys) - n) (xs ++ ys) ≡ xs
without_rest xs ys n long =
    let same : length (xs ++ ys) - n ≡ length xs = omega (arith, length-append xs ys) in
    ap (λ k. take k (xs ++ ys)) same ∙ take-append_seam xs ys

repair_same : (k : Kind) → text_of_repair (encoded_repair k) ≡ kind_text k
repair_same (Local sources) = ap (λ ws. codes "local" ++ spaced_words ws) (sources_same sources)
repair_same (Local3 sources) =
    ap (λ ns. codes "local" ++ spaced_words (map decimal ns)) (without_rest (map (λ f. f.value) sources) (replicate 3 0) 3 refl)
    ∙ ap (λ ws. codes "local" ++ spaced_words ws) (sources_same sources)
repair_same Global = refl
repair_same Move = refl

refusal_same : (r : Refusal) → text_of_refusal (encoded_refusal r) ≡ refusal_text r
refusal_same refusal.UnknownStripe = refl
refusal_same refusal.StripeExists = refl
refusal_same (refusal.NoLawfulNode f) = refl
refusal_same refusal.UnknownNode = refl
refusal_same refusal.WrongMode = refl
refusal_same refusal.UnknownDomain = refl
refusal_same (refusal.UpgradeRunning u) = refl
refusal_same refusal.NotUpgrading = refl
refusal_same (refusal.WouldLose s) = refl
refusal_same (refusal.AlreadyLeased e) = refl
refusal_same refusal.NotNeeded = refl
refusal_same refusal.Unrecoverable = refl
refusal_same refusal.Stale = refl
refusal_same (refusal.NotHolder session) = refl
refusal_same (refusal.TargetOffline n) = refl
refusal_same refusal.NoLease = refl
refusal_same (refusal.NotEmpty seats) = refl

record_same : (reply : Reply) → text_of_record (encoded_reply reply) ≡ reply_text reply
record_same (Placed seats) = ap (λ ws. codes "placed" ++ spaced_words ws) (seats_same seats)
record_same (Placed6 seats) =
    ap (λ ss. codes "placed" ++ spaced_words (map text_of_seat ss)) (without_rest (map encoded_seat seats) (replicate 6 no_seat) 6 refl)
    ∙ ap (λ ws. codes "placed" ++ spaced_words ws) (seats_same seats)
record_same Dropped = refl
record_same (Granted lease kind) = ap (λ words. codes "granted " ++ lease_text lease ++ codes " " ++ words) (repair_same kind)
record_same Idle = refl
record_same Ended = refl
record_same Changed = refl
record_same (Refused r) = ap (λ words. codes "refused " ++ words) (refusal_same r)
record_same (Ticked clock ended) = refl

pub one_text : (a b : Reply) → encoded_reply a ≡ encoded_reply b → reply_text a ≡ reply_text b
one_text a b e = sym (record_same a) ∙ (ap text_of_record e ∙ record_same b)
