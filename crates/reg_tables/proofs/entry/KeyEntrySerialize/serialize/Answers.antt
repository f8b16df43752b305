use Rattle.std.proofs.Common.{◌≡◌, ℕ, List, subst, rules}
use Rattle.std.proofs.lemmas.Result.{on_ok_weaker}
use Rattle.serde.specs.Event.{Logs, text, unsigned}
use Rattle.reg_tables.specs.Internal.Entries.{value_view}
use Rattle.reg_tables.proofs.EntryTexts.{seq-sent}
use Rattle.reg_tables.proofs.entry.KeyEntrySerialize.serialize.Goals as goal

pub returns : goal.returns
returns g c =
    let marks : c.from.result ≡ c.args.self.now.marks = search rules in
    let marked = subst (λ (n : ℕ). Logs (g.S.Serializer.written c.key-3.new.self) (g.S.Serializer.written c.u64.new.self) (unsigned n)) marks c.in_ok-u64.ensures in
    let time = subst (λ (x : List ℕ). Logs (g.S.Serializer.written c.key-2.new.self) (g.S.Serializer.written c.str-2.new.self) (text x)) c.as_str.ensures.value c.in_ok-str-2.ensures in
    let class = subst (λ (x : List ℕ). Logs (g.S.Serializer.written c.key-4.new.self) (g.S.Serializer.written c.str-3.new.self) (text x)) c.as_str-2.ensures.value c.in_ok-str-3.ensures in
    let security = subst (λ (x : List ℕ). Logs (g.S.Serializer.written c.key-5.new.self) (g.S.Serializer.written c.str-4.new.self) (text x)) c.as_str-3.ensures.value c.in_ok-str-4.ensures in
    let values = seq-sent value_view c.args.self.now.values.items (g.S.Serializer.written c.key-6.new.self) (g.S.Serializer.written c.serialize.new.out) c.in_ok-serialize.ensures in
    on_ok_weaker c.end_map.result (λ e. (
      g.S.Serializer.written c.begin_map.new.self,
      c.in_ok-begin_map.ensures,
      (
        g.S.Serializer.written c.key.new.self,
        g.S.Serializer.written c.str.new.self,
        c.in_ok-key.ensures,
        c.in_ok-str.ensures,
        (
          g.S.Serializer.written c.key-2.new.self,
          g.S.Serializer.written c.str-2.new.self,
          c.in_ok-key-2.ensures,
          time,
          (
            g.S.Serializer.written c.key-3.new.self,
            g.S.Serializer.written c.u64.new.self,
            c.in_ok-key-3.ensures,
            marked,
            (
              g.S.Serializer.written c.key-4.new.self,
              g.S.Serializer.written c.str-3.new.self,
              c.in_ok-key-4.ensures,
              class,
              (
                g.S.Serializer.written c.key-5.new.self,
                g.S.Serializer.written c.str-4.new.self,
                c.in_ok-key-5.ensures,
                security,
                (
                  g.S.Serializer.written c.key-6.new.self,
                  g.S.Serializer.written c.serialize.new.out,
                  c.in_ok-key-6.ensures,
                  values,
                  e,
                ),
              ),
            ),
          ),
        ),
      ),
    ))
    c.end_map.ensures
