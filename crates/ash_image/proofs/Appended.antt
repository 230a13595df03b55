-- What is at the end after several texts were written one after the other.
use Rattle.std.proofs.Common.{◌≡◌, ℕ, List, ◌++◌, ap, ◌∙◌, append_assoc}

pub appended2 : (a b c x y : List ℕ) → b ≡ a ++ x → c ≡ b ++ y → c ≡ a ++ (x ++ y)
appended2 a b c x y p q = q ∙ ap (λ (z : List ℕ). z ++ y) p ∙ append_assoc a x y

pub appended6 : (s0 s1 s2 s3 s4 s5 s6 a b c d e f : List ℕ) → s1 ≡ s0 ++ a → s2 ≡ s1 ++ b → s3 ≡ s2 ++ c → s4 ≡ s3 ++ d
    → s5 ≡ s4 ++ e → s6 ≡ s5 ++ f
    → s6 ≡ s0 ++ (a ++ (b ++ (c ++ (d ++ (e ++ f)))))
appended6 s0 s1 s2 s3 s4 s5 s6 a b c d e f p1 p2 p3 p4 p5 p6 =
    let q5 = appended2 s4 s5 s6 e f p5 p6 in
    let q4 = appended2 s3 s4 s6 d (e ++ f) p4 q5 in
    let q3 = appended2 s2 s3 s6 c (d ++ (e ++ f)) p3 q4 in
    let q2 = appended2 s1 s2 s6 b (c ++ (d ++ (e ++ f))) p2 q3 in
    appended2 s0 s1 s6 a (b ++ (c ++ (d ++ (e ++ f)))) p1 q2
