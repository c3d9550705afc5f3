-- Lines and commands: each line is that of one command, and good lines have commands.
use Rattle.std.proofs.Common.{◌≡◌, ℕ, ◌+◌, ◌*◌, ◌<◌, ◌≤◌, inl, inr, false, nat_eq, get_or, not, filter, All, List, [], ◌∷◌, length, map, ◌++◌, Option, Some, None, codes, decimal, refl, sym, ap, ◌∙◌, arith}
use borrow.Author.Tests.{ne_eqb}
use Rattle.std.proofs.lemmas.List.{append_cancel_left}
use Rattle.std.proofs.lemmas.List.Elements.{All-nil, All-cons, All-head, All-tail}
use Rattle.std.proofs.lemmas.Fmt.{decimal_injective}
use Rattle.lrc_code.specs.declared.numbers.StripeNo.{StripeNo}
use Rattle.lrc_code.specs.declared.numbers.NodeNo.{NodeNo}
use Rattle.lrc_code.specs.declared.numbers.Fragment.{Fragment}
use Rattle.lrc_code.specs.declared.numbers.UpgradeNo.{UpgradeNo}
use Rattle.lrc_code.proofs.NumbersLemmas.{equal_stripes, equal_nodes, equal_fragments}
use Rattle.lrc_rules.specs.declared.command.Command.{Command}
use Rattle.lrc_rules.specs.declared.command.Command.TheVariants.{Place, Place6, Drop, Lease, Next, Done, Abandon, Revoke, Fail, Down, Up, Drain, Undrain, Retire, Join, Upgrade, Upgraded, Tick}
use Rattle.lrc_script.specs.Scripts.{is_passed_over, numbers_text, words_of, command_line, IsInRange, IsScript, BadLine, or_else, first_bad, cause_of}
use Rattle.lrc_script.specs.Bundles.{Script}
use Rattle.lrc_script.specs.Cuts.{AreBelow}
use Rattle.lrc_script.proofs.CauseLemmas.{cause_of-good, words_of-numbers}
use Rattle.lrc_script.proofs.FormLemmas.{below_pair, below_report}
use Rattle.lrc_script.proofs.LineLemmas.{cause_of-short}
use Rattle.lrc_script.proofs.FirstLemmas.{first_bad-none}
use Rattle.lrc_outputs.specs.Outputs.{first_bad_of, AreCommandsOf}

-- ---- one command a line

same_stripe : (s t : StripeNo) → decimal s.value ≡ decimal t.value → s ≡ t
same_stripe s t e =
    let a = s.in_range in
    let b = t.in_range in
    equal_stripes s t (decimal_injective s.value t.value (omega (arith, a)) (omega (arith, b)) e)

same_node : (m n : NodeNo) → m.value < 65536 → n.value < 65536 → decimal m.value ≡ decimal n.value → m ≡ n
same_node m n a b e = equal_nodes m n (decimal_injective m.value n.value (omega (arith, a)) (omega (arith, b)) e)

same_domain : (u v : UpgradeNo) → u.value < 256 → v.value < 256 → decimal u.value ≡ decimal v.value → u ≡ v
same_domain u v a b e = ap (λ n. record { value = n }) (decimal_injective u.value v.value (omega (arith, a)) (omega (arith, b)) e)

-- rows of numbers with one text are one row
same_words : (m n : ℕ) (ms ns bounds : List ℕ) → AreBelow (m ∷ ms) bounds → AreBelow (n ∷ ns) bounds → numbers_text (m ∷ ms) ≡ numbers_text (n ∷ ns) → map decimal (m ∷ ms) ≡ map decimal (n ∷ ns)
same_words m n ms ns bounds a b e = sym (words_of-numbers m ms bounds a) ∙ ap words_of e ∙ words_of-numbers n ns bounds b

-- the text at this place of a row
abbrev word_at : ℕ → List (List ℕ) → List ℕ
word_at i words = get_or words i []

same_fragment : (f g : Fragment) → decimal f.value ≡ decimal g.value → f ≡ g
same_fragment f g e =
    let a = f.in_range in
    let b = g.in_range in
    equal_fragments f g (decimal_injective f.value g.value (omega (arith, a)) (omega (arith, b)) e)

same_pair : (make : StripeNo → Fragment → Command) (s t : StripeNo) (f g : Fragment) → numbers_text (s.value ∷ f.value ∷ []) ≡ numbers_text (t.value ∷ g.value ∷ []) → make s f ≡ make t g
same_pair make s t f g e =
    let words = same_words s.value t.value (f.value ∷ []) (g.value ∷ []) (4096 ∷ 16 ∷ []) (below_pair s f) (below_pair t g) e in
    let stripes = same_stripe s t (ap (word_at 0) words) in
    let fragments = same_fragment f g (ap (word_at 1) words) in
    cc

same_report : (make : StripeNo → Fragment → ℕ → Command) (s t : StripeNo) (f g : Fragment) (m n : ℕ) → m < 4294967296 → n < 4294967296
    → numbers_text (s.value ∷ f.value ∷ m ∷ []) ≡ numbers_text (t.value ∷ g.value ∷ n ∷ []) → make s f m ≡ make t g n
same_report make s t f g m n a b e =
    let words = same_words s.value t.value (f.value ∷ m ∷ []) (g.value ∷ n ∷ []) (4096 ∷ 16 ∷ 4294967296 ∷ []) (below_report s f m a) (below_report t g n b) e in
    let stripes = same_stripe s t (ap (word_at 0) words) in
    let fragments = same_fragment f g (ap (word_at 1) words) in
    let epochs = decimal_injective m n (omega (arith, a)) (omega (arith, b)) (ap (word_at 2) words) in
    cc

-- the first three letters of a line, as one number
abbrev letters : List ℕ → ℕ
letters (x ∷ y ∷ z ∷ more) = 1000000 * x + 1000 * y + z
letters other = 0

no_space_d : (xs ys : List ℕ) → codes " " ++ xs ≡ codes "d " ++ ys → ⊥
no_space_d xs ys e = let first = ap (λ l. get_or l 0 0) e in absurd (omega (arith, first))

no_space_6 : (xs ys : List ℕ) → codes " " ++ xs ≡ codes "6 " ++ ys → ⊥
no_space_6 xs ys e = let first = ap (λ l. get_or l 0 0) e in absurd (omega (arith, first))

same_command : (c d : Command) → IsInRange c → IsInRange d → command_line c ≡ command_line d → c ≡ d
same_command (Place s) (Place t) a b e = ap Place (same_stripe s t (append_cancel_left (codes "place ") _ _ e))
same_command (Place6 s) (Place6 t) a b e = ap Place6 (same_stripe s t (append_cancel_left (codes "place6 ") _ _ e))
same_command (Drop s) (Drop t) a b e = ap Drop (same_stripe s t (append_cancel_left (codes "drop ") _ _ e))
same_command (Lease s f) (Lease t g) a b e = same_pair Lease s t f g (append_cancel_left (codes "lease ") _ _ e)
same_command Next Next a b e = refl
same_command (Done s f m) (Done t g n) a b e = same_report Done s t f g m n a b (append_cancel_left (codes "done ") _ _ e)
same_command (Abandon s f m) (Abandon t g n) a b e = same_report Abandon s t f g m n a b (append_cancel_left (codes "abandon ") _ _ e)
same_command (Revoke s f) (Revoke t g) a b e = same_pair Revoke s t f g (append_cancel_left (codes "revoke ") _ _ e)
same_command (Fail m) (Fail n) a b e = ap Fail (same_node m n a b (append_cancel_left (codes "fail ") _ _ e))
same_command (Down m) (Down n) a b e = ap Down (same_node m n a b (append_cancel_left (codes "down ") _ _ e))
same_command (Up m) (Up n) a b e = ap Up (same_node m n a b (append_cancel_left (codes "up ") _ _ e))
same_command (Drain m) (Drain n) a b e = ap Drain (same_node m n a b (append_cancel_left (codes "drain ") _ _ e))
same_command (Undrain m) (Undrain n) a b e = ap Undrain (same_node m n a b (append_cancel_left (codes "undrain ") _ _ e))
same_command (Retire m) (Retire n) a b e = ap Retire (same_node m n a b (append_cancel_left (codes "retire ") _ _ e))
same_command (Join m) (Join n) a b e = ap Join (same_node m n a b (append_cancel_left (codes "join ") _ _ e))
same_command (Upgrade u) (Upgrade v) a b e = ap Upgrade (same_domain u v a b (append_cancel_left (codes "upgrade ") _ _ e))
same_command (Upgraded u) (Upgraded v) a b e = ap Upgraded (same_domain u v a b (append_cancel_left (codes "upgraded ") _ _ e))
same_command Tick Tick a b e = refl
same_command (Place s) (Place6 t) a b e = absurd (no_space_6 _ _ (append_cancel_left (codes "place") _ _ e))
same_command (Place6 s) (Place t) a b e = absurd (no_space_6 _ _ (append_cancel_left (codes "place") _ _ (sym e)))
same_command (Upgrade u) (Upgraded v) a b e = absurd (no_space_d _ _ (append_cancel_left (codes "upgrade") _ _ e))
same_command (Upgraded u) (Upgrade v) a b e = absurd (no_space_d _ _ (append_cancel_left (codes "upgrade") _ _ (sym e)))
same_command c d a b e = absurd (let bad : letters (command_line c) ≡ letters (command_line d) = ap letters e in omega (arith, bad))

same_commands : (cs ds : List Command) → All IsInRange cs → All IsInRange ds → map command_line cs ≡ map command_line ds → cs ≡ ds
same_commands [] [] a b e = refl
same_commands [] (d ∷ ds) a b e = absurd (cc)
same_commands (c ∷ cs) [] a b e = absurd (cc)
same_commands (c ∷ cs) (d ∷ ds) a b e =
    let here : command_line c ≡ command_line d = cc in
    let rest : map command_line cs ≡ map command_line ds = cc in
    let one = same_command c d (All-head IsInRange c cs a) (All-head IsInRange d ds b) here in
    let more = same_commands cs ds (All-tail IsInRange c cs a) (All-tail IsInRange d ds b) rest in
    cc

pub as_many_lists : (scripts : List Script) (lists : List (List Command)) → AreCommandsOf scripts lists → length lists ≡ length scripts
as_many_lists [] [] are = refl
as_many_lists [] (c ∷ cs) are = absurd are
as_many_lists (s ∷ ss) [] are = absurd are
as_many_lists (s ∷ ss) (c ∷ cs) are = omega (arith, as_many_lists ss cs are.1)

-- scripts have one list of commands each
pub same_lists : (scripts : List Script) (lists others : List (List Command)) → AreCommandsOf scripts lists → AreCommandsOf scripts others → lists ≡ others
same_lists [] [] [] p q = refl
same_lists [] (c ∷ cs) ds p q = absurd p
same_lists [] [] (d ∷ ds) p q = absurd q
same_lists (s ∷ ss) [] ds p q = absurd p
same_lists (s ∷ ss) (c ∷ cs) [] p q = absurd q
same_lists (s ∷ ss) (c ∷ cs) (d ∷ ds) p q =
    let one = same_commands c d p.0.in_range q.0.in_range (sym p.0.listed ∙ q.0.listed) in
    let more = same_lists ss cs ds p.1 q.1 in
    cc

-- ---- good lines have commands

kept : (line : List ℕ) → 0 < length line → nat_eq (get_or line 0 0) 35 ≡ false → is_passed_over line ≡ false
kept line some other = rw (ne_eqb (length line) 0 (omega arith), other) refl

not_passed : (c : Command) → is_passed_over (command_line c) ≡ false
not_passed (Place s) = kept (command_line (Place s)) (omega arith) refl
not_passed c = kept (command_line c) (omega arith) refl

some_commands : (lines : List (List ℕ)) → All (λ line. cause_of line ≡ None) lines → (commands : List Command) × IsScript lines commands
some_commands [] good = ([], record { short = All-nil (λ line. length line ≤ 1024); in_range = All-nil IsInRange; listed = refl })
some_commands (line ∷ lines) good =
    let here = All-head (λ l. cause_of l ≡ None) line lines good in
    let behind = some_commands lines (All-tail (λ l. cause_of l ≡ None) line lines good) in
    let short = All-cons (λ l. length l ≤ 1024) line lines (cause_of-short line here) behind.1.short in
    elim ((cause_of-good line).0 here) [
      | inl passed ↦ let over = passed.0 in (behind.0, record { short = short; in_range = behind.1.in_range; listed = rw over behind.1.listed })
      | inr made ↦
          let kept : is_passed_over line ≡ false = ap is_passed_over made.2 ∙ not_passed made.0 in (
            made.0 ∷ behind.0,
            record {
              short = short;
              in_range = All-cons IsInRange made.0 behind.0 made.1 behind.1.in_range;
              listed = rw kept (ap (λ l. l ∷ filter (λ x. not (is_passed_over x)) lines) made.2 ∙ ap (λ ls. command_line made.0 ∷ ls) behind.1.listed);
            },
          )
    ]

neither : (first other : Option BadLine) → or_else first other ≡ None → (first ≡ None) × (other ≡ None)
neither None other e = (refl, e)
neither (Some bad) other e = cc

pub some_lists : (scripts : List Script) → first_bad_of scripts ≡ None → (lists : List (List Command)) × AreCommandsOf scripts lists
some_lists [] good = ([], tt)
some_lists (script ∷ scripts) good =
    let parts = neither (first_bad script.first_line script.lines) (first_bad_of scripts) good in
    let one = some_commands script.lines ((first_bad-none script.first_line script.lines).0 parts.0) in
    let more = some_lists scripts parts.1 in
    (one.0 ∷ more.0, (one.1, more.1))
