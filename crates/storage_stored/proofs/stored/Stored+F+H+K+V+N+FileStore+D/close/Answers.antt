use Rattle.storage_stored.proofs.stored.Stored+F+H+K+V+N+FileStore+D.close.Goals as goal

pub returns-in-Ok : goal.returns-in-Ok
returns-in-Ok g c = λ last shows again on. (shows.lists, c.in-Ok.ensures shows.lists shows.shown again on, shows.are)
