use Rattle.std.proofs.Common.{ap, refl}
use Rattle.blobd_serve.proofs.Histories.{at_most, exactly}
use Rattle.blobd_serve.proofs.Served.{is_served}
use Rattle.blobd_serve.proofs.kept.serve_all_kept.Goals as goal

pub returns-clause-served : goal.returns-clause-served
returns-clause-served g c = record {
  given = _;
  left = _;
  pool = c.in_ok-pool.ensures.served;
  at =
      at_most _ _ _ _ _ _ c.in_ok-pool.ensures.served.served refl
      (λ conns. conns.door) g.L.Accepts.history (λ conns. conns.left)
      (record {
        none = λ old new given. given;
        fewer = λ old new r w given. given.0;
        unused = λ old new r w given. (ap (λ t. t.bytes) given.1, given.2);
        one = λ old new r w given. given.3;
        same = λ old new r w back. back.0;
        back = λ old new r w back. back.1;
      }) c.args.count c.requires.left _ c.take_doors.ensures;
}

pub returns-clause-took : goal.returns-clause-took
returns-clause-took g c = λ took. record {
  given = _;
  left = _;
  pool = c.in_ok-pool.ensures.served;
  at =
      exactly _ _ _ _ _ _ c.in_ok-pool.ensures.served.served refl
      (λ conns. conns.door) g.L.Accepts.history (λ conns. conns.left)
      (record {
        none = λ old new given. given;
        fewer = λ old new r w given. given.0;
        unused = λ old new r w given. (ap (λ t. t.bytes) given.1, given.2);
        one = λ old new r w given. given.3;
        same = λ old new r w back. back.0;
        back = λ old new r w back. back.1;
      }) c.args.count c.requires.left _ c.take_doors.ensures (c.took_all-took.ensures took);
}

-- what a worker served may come back to its door
pub serve_kept-requires-clause-come_back : goal.serve_kept-requires-clause-come_back
serve_kept-requires-clause-come_back g c κs within = λ max_body before given t gave.
    c.requires.come_back given.door t.reader_left.end.stream t.writer_left.end.stream
    (is_served _ max_body t (ap (λ t. t.bytes) gave.1) gave.2)
