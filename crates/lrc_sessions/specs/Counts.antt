-- Which sessions are all sessions of a manager, and the number of calls of each.
use Rattle.std.specs.Prelude.{◌≡◌, ℕ, ◌≤◌, ◌==◌, cond, nat_le, List, map, count_by, sum_by}
use Rattle.lrc_code.specs.declared.numbers.SessionNo.{SessionNo}
use Rattle.lrc_rules.specs.declared.entry.Entry.{Entry}
use Rattle.lrc_rules.specs.Sessions.{sessions, is_of}
use Rattle.lrc_sessions.specs.Views.{SessionView}

-- how many of the sessions have the number
abbrev pub times : ℕ → List SessionView → ℕ
times k ss = count_by (λ (s : SessionView). s.number == k) ss

-- the sessions have the numbers 1 to count, each once, and no other number from 1 to 8
abbrev pub AreAll : ℕ → List SessionView → Type 0
AreAll count ss = (k : ℕ) → 1 ≤ k → k ≤ 8 → times k ss ≡ cond (nat_le k count) 1 0

-- how many calls the sessions with this number made
abbrev pub made_of : ℕ → List SessionView → ℕ
made_of k ss = sum_by (λ (s : SessionView). cond (s.number == k) s.made 0) ss

-- each number from 1 to count, and how many calls its sessions made
abbrev pub counts_of : ℕ → List SessionView → List (ℕ × ℕ)
counts_of count ss = map (λ k. (k, made_of k ss)) (sessions count)

-- how many entries of the history are of the session with this number
abbrev pub made_in : ℕ → List Entry → ℕ
made_in k history = count_by (is_of k) history

-- each number from 1 to count, and how many entries of the history are of its session
abbrev pub counts_in : ℕ → List Entry → List (ℕ × ℕ)
counts_in count history = map (λ k. (k, made_in k history)) (sessions count)

-- the sum of the numbers of calls
abbrev pub total_made : List (ℕ × ℕ) → ℕ
total_made counts = sum_by (λ (c : ℕ × ℕ). c.1) counts

-- the model of a session's number with its number of calls
abbrev pub shown : SessionNo × ℕ → ℕ × ℕ
shown c = (c.0.value, c.1)
